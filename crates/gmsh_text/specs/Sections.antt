-- The head of a text, its sections, and the physical groups of its entities.
use Rattle.std.specs.Prelude.{ℕ, ℤ, ◌^◌, List, [], ◌∷◌, ◌++◌, Option, Some, None, Result, Ok, Err, codes, nat_eq, is_some, if◌then◌else◌}
use Rattle.std.specs.Str.{bytes_eq}
use Rattle.std.specs.Map.{lookup}
use Rattle.std.specs.Ordering.{int_eq}
use Rattle.op_num.specs.Cut.{Word, Uncut}
use Rattle.gmsh_text.specs.declared.refusal.TextRefusal.{TextRefusal}
use Rattle.gmsh_text.specs.declared.refusal.TextRefusal.TheVariants.{Header, Version, Binary, Syntax, DuplicateEntity}
use Rattle.gmsh_text.specs.declared.entities.Group.{Group}
use Rattle.gmsh_text.specs.declared.entities.Group.TheVariants.{Ungrouped}
use Rattle.gmsh_text.specs.declared.format.Version.{Version as Form}
use Rattle.gmsh_text.specs.declared.format.Version.TheVariants.{Two, Four}
use Rattle.gmsh_text.specs.declared.format.Section.{Section}
use Rattle.gmsh_text.specs.declared.format.Section.TheVariants.{Entities, Nodes, Elements}
use Rattle.gmsh_text.specs.Groups.{Grouped, EntityGroups}
use Rattle.gmsh_text.specs.Parsing.{Parsed, and_then, repeat, taken}
use Rattle.gmsh_text.specs.Numbers.{number, integer, word, expected_word, skip_decimals, skip_integers}
use Rattle.gmsh_text.specs.Values.{joined}

-- the version that a token names
abbrev pub version_of : Word → Result Form TextRefusal
version_of w = if bytes_eq w.text (codes "2.2") then Ok Two else if bytes_eq w.text (codes "4.1") then Ok Four else Err (Version w.line)

-- 0 says that the file is a text, and 1 that it is binary
abbrev pub text_mark : Word → Result Word TextRefusal
text_mark w = if bytes_eq w.text (codes "1") then Err (Binary w.line) else expected_word (Syntax w.line) (codes "0") w

-- the section with the version, which comes first
unfoldable pub format : Uncut → Parsed Form
format u = and_then (taken (λ w. expected_word (Header w.line) (codes "$MeshFormat") w) u) (λ _ a.
    and_then (taken version_of a) (λ v b. and_then (taken text_mark b) (λ _ c. and_then (number (2 ^ 32) c) (λ _ d.
    and_then (word (codes "$EndMeshFormat") d) (λ _ e. Ok (v, e))))))

-- the section that begins with a token
abbrev pub section_of : List ℕ → Option Section
section_of text = if bytes_eq text (codes "$Entities") then Some Entities else if bytes_eq text (codes "$Nodes") then Some Nodes
    else if bytes_eq text (codes "$Elements") then Some Elements else None

-- the section that begins with this token, or else the first of what comes behind it
abbrev pub section_or : Option Section → ℕ → List Word → Parsed Section → Parsed Section
section_or None line ws later = later
section_or (Some s) line ws later = Ok (s, record { last = line; words = ws })

-- the first section of these; the line is that of the last token before
unfoldable pub section_from : ℕ → List Word → Parsed Section
section_from last [] = Err (Syntax last)
section_from last (w ∷ ws) = section_or (section_of w.text) w.line ws (section_from w.line ws)

-- the first section of these, whatever stands before it
abbrev pub section : Uncut → Parsed Section
section u = section_from u.last u.words

-- this section, where it is the elements
abbrev pub elements_only : Section → Uncut → Parsed Section
elements_only Elements u = Ok (Elements, u)
elements_only Nodes u = Err (Syntax u.last)
elements_only Entities u = Err (Syntax u.last)

-- this section, where it is the nodes
abbrev pub nodes_only : Section → Uncut → Parsed Section
nodes_only Nodes u = Ok (Nodes, u)
nodes_only Elements u = Err (Syntax u.last)
nodes_only Entities u = Err (Syntax u.last)

-- the elements are the next section of these
unfoldable pub wanted : Uncut → Parsed Section
wanted u = and_then (section u) elements_only

-- with one more physical tag
unfoldable pub group_row : Group → Uncut → Parsed Group
group_row g u = and_then (integer u) (λ z v. Ok (joined g z, v))

-- the physical tags of an entity
unfoldable pub group : Uncut → Parsed Group
group u = and_then (number (2 ^ 32) u) (λ n v. repeat group_row n Ungrouped v)

-- a point: its tag, three coordinates and its physical tags; it is passed over
unfoldable pub skip_point : Unit {0} → Uncut → Parsed (Unit {0})
skip_point s u = and_then (integer u) (λ _ a. and_then (skip_decimals 3 a) (λ _ b. and_then (group b) (λ _ c. Ok (s, c))))

-- another entity: its tag, six coordinates of a box round it, its physical tags and the entities that bound it
unfoldable pub entity : Uncut → Parsed Grouped
entity u = and_then (integer u) (λ z a. and_then (skip_decimals 6 a) (λ _ b. and_then (group b) (λ g c. and_then (number (2 ^ 32) c) (λ n d.
    and_then (skip_integers n d) (λ _ e. Ok ((z, g), e))))))

-- one more entity, with a tag of its own
abbrev pub with_entity : Grouped → List Grouped → Uncut → Parsed (List Grouped)
with_entity e es u = if is_some (lookup (int_eq e.0) es) then Err (DuplicateEntity u.last) else Ok (es ++ e ∷ [], u)

-- an entity, kept
unfoldable pub entity_row : List Grouped → Uncut → Parsed (List Grouped)
entity_row es u = and_then (entity u) (λ e v. with_entity e es v)

-- an entity, passed over
unfoldable pub skip_entity : Unit {0} → Uncut → Parsed (Unit {0})
skip_entity s u = and_then (entity u) (λ _ v. Ok (s, v))

-- the entities of each dimension, where those of dimension 1 and 2 are kept
unfoldable pub entity_lists : ℕ → ℕ → ℕ → ℕ → Uncut → Parsed EntityGroups
entity_lists points curves surfaces volumes u = and_then (repeat skip_point points tt u) (λ _ a.
    and_then (repeat entity_row curves [] a) (λ cs b. and_then (repeat entity_row surfaces [] b) (λ ss c.
    and_then (repeat skip_entity volumes tt c) (λ _ d. Ok (record { curves = cs; surfaces = ss }, d)))))

-- how many entities of each dimension, and the entities
unfoldable pub entities : Uncut → Parsed EntityGroups
entities u = and_then (number (2 ^ 32) u) (λ points a. and_then (number (2 ^ 32) a) (λ curves b. and_then (number (2 ^ 32) b) (λ surfaces c.
    and_then (number (2 ^ 32) c) (λ volumes d. and_then (entity_lists points curves surfaces volumes d) (λ es e.
    and_then (word (codes "$EndEntities") e) (λ _ f. Ok (es, f)))))))

-- no entities are given
abbrev pub no_entities : EntityGroups
no_entities = record { curves = []; surfaces = [] }

-- the entities' section, and then the nodes'; or the nodes' alone
abbrev pub entities_in : Section → Uncut → Parsed EntityGroups
entities_in Entities u = and_then (entities u) (λ es a. and_then (section a) (λ s b. and_then (nodes_only s b) (λ _ c. Ok (es, c))))
entities_in Nodes u = Ok (no_entities, u)
entities_in Elements u = Err (Syntax u.last)

-- the entities' groups, and the word with which the nodes begin
unfoldable pub entities_before : Uncut → Parsed EntityGroups
entities_before u = and_then (section u) entities_in

-- the group, or none
abbrev pub group_or : Option Group → Group
group_or None = Ungrouped
group_or (Some g) = g

-- the physical group of an entity by its dimension and its tag
abbrev pub group_of : EntityGroups → ℕ → ℤ → Group
group_of groups dim z = if nat_eq dim 1 then group_or (lookup (int_eq z) groups.curves)
    else if nat_eq dim 2 then group_or (lookup (int_eq z) groups.surfaces) else Ungrouped
