-- The text of a plan.
use Rattle.std.specs.Prelude.{ℕ, zero, suc, List, [], ◌∷◌, ◌++◌, map, take, drop, codes}
use Rattle.std.specs.List.{flat_map}
use Rattle.std.specs.Fmt.{decimal}
use Rattle.op_num.specs.Lines.{text_of_lines}
use Rattle.mesh_decl.specs.Mesh.{MeshValue, set_count, set_name, dat_name}
use Rattle.local_mesh.specs.declared.types.LocalSet.{LocalSet}
use Rattle.local_mesh.specs.declared.types.RankMesh.{RankMesh}
use Rattle.local_mesh.specs.LocalMesh.{originals_in, executed_in}
use Rattle.colouring.specs.declared.types.Colours.{Colours}
use Rattle.bound_program.specs.Values.{ItemValue, Free, Reduce, Ordered, Host, BoundValue}
use Rattle.loop_plan.specs.Values.{ItemPlanValue, SitePlanValue, PlanValue}
use Rattle.loop_plan.specs.Pairs.{own_in, owned}

-- a line: its parts
abbrev pub Line : Type 0
Line = List (List ℕ)

-- `halo SET RANK owned E .. exec E .. nonexec E ..`, by local number
abbrev pub halo_line : MeshValue → List LocalSet → ℕ → ℕ → Line
halo_line g sets s r =
    (codes "halo" ∷ set_name g s ∷ decimal r ∷ codes "owned" ∷ map decimal (owned sets s))
    ++ (codes "exec" ∷ map decimal (drop (own_in sets s) (take (executed_in sets s) (originals_in sets s))))
    ++ (codes "nonexec" ∷ map decimal (drop (executed_in sets s) (originals_in sets s)))

-- the halo lines of a set, from rank r on
abbrev pub halo_lines : MeshValue → ℕ → ℕ → List RankMesh → List Line
halo_lines g s r [] = []
halo_lines g s r (m ∷ ms) = halo_line g m.sets.items s r ∷ halo_lines g s (suc r) ms

-- the halo lines of the first sets
abbrev pub all_halo_lines : MeshValue → List RankMesh → ℕ → List Line
all_halo_lines g meshes zero = []
all_halo_lines g meshes (suc s) = all_halo_lines g meshes s ++ halo_lines g s 0 meshes

-- `site S rank R places C blocks C .. inner C ..`
abbrev pub site_line : ℕ → ℕ → ℕ → Colours → Line
site_line s r places c =
    (codes "site" ∷ decimal s ∷ codes "rank" ∷ decimal r ∷ codes "places" ∷ decimal places ∷ codes "blocks" ∷ map decimal c.blocks.items)
    ++ (codes "inner" ∷ map decimal c.inner.items)

-- the lines of a loop, from rank r on
abbrev pub site_lines : ℕ → ℕ → List ℕ → List Colours → List Line
site_lines s r [] cs = []
site_lines s r (n ∷ ns) [] = []
site_lines s r (n ∷ ns) (c ∷ cs) = site_line s r n c ∷ site_lines s (suc r) ns cs

-- the lines of a loop, one for each rank
abbrev pub loop_lines : ℕ × SitePlanValue → List Line
loop_lines e = site_lines e.0 0 e.1.places e.1.colours

-- the line of item k
abbrev pub item_line : MeshValue → ℕ → ItemValue → List ℕ → Line
item_line g k (Free s) dats = codes "item" ∷ decimal k ∷ codes "free" ∷ decimal s ∷ codes "exchange" ∷ map (dat_name g) dats
item_line g k (Reduce s) dats = codes "item" ∷ decimal k ∷ codes "reduce" ∷ decimal s ∷ []
item_line g k (Ordered s) dats = codes "item" ∷ decimal k ∷ codes "ordered" ∷ decimal s ∷ []
item_line g k (Host a) dats = codes "item" ∷ decimal k ∷ codes "host" ∷ []

-- the lines of all items, from item k on
abbrev pub item_lines : MeshValue → ℕ → List ItemValue → List ItemPlanValue → List Line
item_lines g k [] ps = []
item_lines g k (i ∷ is) [] = []
item_lines g k (i ∷ is) (p ∷ ps) = item_line g k i p.exchange ∷ item_lines g (suc k) is ps

-- all lines of the text: ranks and blocks, halos, loops and items
abbrev pub plan_lines : BoundValue → List RankMesh → PlanValue → List Line
plan_lines b meshes p =
    (codes "op2plan" ∷ codes "1" ∷ [])
    ∷ (codes "ranks" ∷ decimal p.ranks ∷ codes "block" ∷ decimal p.block ∷ [])
    ∷ (all_halo_lines b.mesh meshes (set_count b.mesh)
    ++ flat_map loop_lines p.sites
    ++ item_lines b.mesh 0 b.trace p.items
    ++ (codes "done" ∷ []) ∷ [])

-- the bytes of the text
abbrev pub plan_text : BoundValue → List RankMesh → PlanValue → List ℕ
plan_text b meshes p = text_of_lines (plan_lines b meshes p)
