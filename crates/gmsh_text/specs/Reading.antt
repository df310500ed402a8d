-- What a text of Gmsh spells, token for token (Gmsh's reference manual, "MSH file format", versions 2.2 and 4.1, ASCII).
use Rattle.std.specs.Prelude.{ℕ, zero, suc, ◌^◌, List, Option, Some, None, Result, Ok, Err, codes, nat_eq, if◌then◌else◌}
use Rattle.op_num.specs.Spelling.{number_of}
use Rattle.op_num.specs.Cut.{Uncut, uncut}
use Rattle.gmsh_text.specs.declared.refusal.TextRefusal.{TextRefusal}
use Rattle.gmsh_text.specs.declared.refusal.TextRefusal.TheVariants.{Syntax, ElementType}
use Rattle.gmsh_text.specs.declared.kind.Kind.{Kind}
use Rattle.gmsh_text.specs.declared.entities.Group.{Group}
use Rattle.gmsh_text.specs.declared.entities.Group.TheVariants.{Ungrouped}
use Rattle.gmsh_text.specs.declared.nodes.Point.{Point}
use Rattle.gmsh_text.specs.declared.table.Elements.{Elements}
use Rattle.gmsh_text.specs.declared.read.GmshText.{GmshText}
use Rattle.gmsh_text.specs.declared.format.Version.{Version}
use Rattle.gmsh_text.specs.declared.format.Version.TheVariants.{Two, Four}
use Rattle.gmsh_text.specs.Rows.{Numbered}
use Rattle.gmsh_text.specs.Groups.{EntityGroups}
use Rattle.gmsh_text.specs.Parsing.{Parsed, and_then, repeat, taken}
use Rattle.gmsh_text.specs.Numbers.{number, integer, decimal, tag, word, skip_decimals, skip_integers}
use Rattle.gmsh_text.specs.Values.{kind_of, node_count, no_nodes, with_tag, with_point, no_elements, corner_in, row_in, joined}
use Rattle.gmsh_text.specs.Sections.{format, wanted, group_of, entities_before}

-- three coordinates
unfoldable pub point : Uncut → Parsed Point
point u = and_then (decimal u) (λ x a. and_then (decimal a) (λ y b. and_then (decimal b) (λ z c. Ok (record { x = x; y = y; z = z }, c))))

-- a tag, of one node more
unfoldable pub tag_row : Numbered → Uncut → Parsed Numbered
tag_row ns u = and_then (tag u) (λ t v. Ok (with_tag t ns, v))

-- a point, of one node more, and behind it so many decimals that are passed over
unfoldable pub point_row : ℕ → Numbered → Uncut → Parsed Numbered
point_row extra ns u = and_then (point u) (λ p v. and_then (skip_decimals extra v) (λ _ w. Ok (with_point p ns, w)))

-- version 2.2: a node
unfoldable pub node : Numbered → Uncut → Parsed Numbered
node ns u = and_then (tag_row ns u) (point_row 0)

-- version 2.2: how many nodes, and the nodes
unfoldable pub nodes_2 : Uncut → Parsed Numbered
nodes_2 u = and_then (number (2 ^ 32) u) (λ n v. repeat node n no_nodes v)

-- version 4.1: how many decimals stand behind the coordinates, by the dimension of the entity and whether its nodes have parameters
abbrev pub extra_decimals : ℕ → ℕ → ℕ
extra_decimals dim parametric = if nat_eq parametric 0 then 0 else dim

-- version 4.1: the nodes of an entity, first their tags and then their points
unfoldable pub node_block : Numbered → Uncut → Parsed Numbered
node_block ns u = and_then (number 4 u) (λ dim a. and_then (integer a) (λ _ b. and_then (number 2 b) (λ parametric c.
    and_then (number (2 ^ 32) c) (λ n d. and_then (repeat tag_row n ns d) (repeat (point_row (extra_decimals dim parametric)) n)))))

-- version 4.1: how many blocks, and three numbers that are passed over: how many items, the least and the greatest of their tags
unfoldable pub blocks : Uncut → Parsed ℕ
blocks u = and_then (number (2 ^ 32) u) (λ n a. and_then (number (2 ^ 32) a) (λ _ b. and_then (number (2 ^ 32) b) (λ _ c.
    and_then (number (2 ^ 32) c) (λ _ d. Ok (n, d)))))

-- version 4.1: the blocks of nodes
unfoldable pub nodes_4 : Uncut → Parsed Numbered
nodes_4 u = and_then (blocks u) (λ n v. repeat node_block n no_nodes v)

-- the nodes
unfoldable pub nodes : Version → Uncut → Parsed Numbered
nodes Two u = nodes_2 u
nodes Four u = nodes_4 u

-- the type of an element that is spelled, where it is read
abbrev pub kind_read : ℕ → Option Kind → Result Kind TextRefusal
kind_read line None = Err (ElementType line)
kind_read line (Some k) = Ok k

-- the same by its number
abbrev pub kind_spelled : ℕ → Option ℕ → Result Kind TextRefusal
kind_spelled line None = Err (Syntax line)
kind_spelled line (Some n) = kind_read line (kind_of n)

-- the type of an element is awaited
unfoldable pub kind : Uncut → Parsed Kind
kind u = taken (λ w. kind_spelled w.line (number_of w.text)) u

-- a node of an element
unfoldable pub corner : Kind → Elements → Uncut → Parsed Elements
corner k es u = and_then (number (2 ^ 32) u) (λ n v. Ok (corner_in k n es, v))

-- the nodes of an element, of which the rest is known
unfoldable pub corners : Kind → ℕ → Group → Elements → Uncut → Parsed Elements
corners k line g es u = and_then (repeat (corner k) (node_count k) es u) (λ fs v. Ok (row_in k line g fs, v))

-- version 2.2: that many tags, of which the first is the physical tag
unfoldable pub element_tags : ℕ → Uncut → Parsed Group
element_tags zero u = Ok (Ungrouped, u)
element_tags (suc n) u = and_then (integer u) (λ z v. and_then (skip_integers n v) (λ _ w. Ok (joined Ungrouped z, w)))

-- version 2.2: an element
unfoldable pub element_2 : Elements → Uncut → Parsed Elements
element_2 es u = and_then (tag u) (λ t a. and_then (kind a) (λ k b. and_then (number (2 ^ 32) b) (λ n c. and_then (element_tags n c) (λ g d.
    corners k t.line g es d))))

-- version 2.2: how many elements, and the elements
unfoldable pub elements_2 : Uncut → Parsed Elements
elements_2 u = and_then (number (2 ^ 32) u) (λ n v. repeat element_2 n no_elements v)

-- version 4.1: an element of an entity
unfoldable pub element_4 : Kind → Group → Elements → Uncut → Parsed Elements
element_4 k g es u = and_then (tag u) (λ t v. corners k t.line g es v)

-- version 4.1: the elements of an entity
unfoldable pub element_block : EntityGroups → Elements → Uncut → Parsed Elements
element_block groups es u = and_then (number 4 u) (λ dim a. and_then (integer a) (λ entity b. and_then (kind b) (λ k c.
    and_then (number (2 ^ 32) c) (λ n d. repeat (element_4 k (group_of groups dim entity)) n es d))))

-- version 4.1: the blocks of elements
unfoldable pub elements_4 : EntityGroups → Uncut → Parsed Elements
elements_4 groups u = and_then (blocks u) (λ n v. repeat (element_block groups) n no_elements v)

-- the elements; in version 4.1 an element is in the physical group of its entity
unfoldable pub elements : Version → EntityGroups → Uncut → Parsed Elements
elements Two groups u = elements_2 u
elements Four groups u = elements_4 groups u

-- the nodes and the elements, each up to its last word
unfoldable pub body : Version → EntityGroups → Uncut → Parsed GmshText
body v groups u = and_then (nodes v u) (λ ns a. and_then (word (codes "$EndNodes") a) (λ _ b.
    and_then (wanted b) (λ _ c. and_then (elements v groups c) (λ es d.
    and_then (word (codes "$EndElements") d) (λ _ e. Ok (record { nodes = ns; elements = es }, e))))))

-- The text: its version, the entities' physical groups where they are given, the nodes and the elements. Sections of other names are
-- passed over, and so is what stands behind the elements.
unfoldable pub text : Uncut → Parsed GmshText
text u = and_then (format u) (λ v a. and_then (entities_before a) (λ groups b. body v groups b))

-- without what is to come
abbrev pub value : {A : Type 0} → Parsed A → Result A TextRefusal
value (Ok r) = Ok r.0
value (Err e) = Err e

-- What a text comes to: what it spells, or its refusal, which is that of the first token that may not stand where it does.
abbrev pub outcome : List ℕ → Result GmshText TextRefusal
outcome bytes = value (text (uncut bytes))
