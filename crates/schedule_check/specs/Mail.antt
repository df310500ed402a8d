-- How many cells a message has.
use Rattle.std.specs.Prelude.{◌≡◌, ◌≢◌, ◌<◌, ◌≤◌, ◌+◌, ◌*◌, ℕ, Bool, nat_eq, List, [], ◌∷◌, length, take, drop, filter, map, slice_index, All, Vec}
use Rattle.std.specs.List.{list_any}
use Rattle.std.specs.declared.alloc.Global.{Global}
use Rattle.mesh_decl.specs.Mesh.{MeshValue, set_count, dat_count, dat_set, dat_dim}
use Rattle.local_mesh.specs.declared.types.RankMesh.{RankMesh}
use Rattle.local_mesh.specs.LocalMesh.{originals_in}
use Rattle.bound_program.specs.Values.{BoundValue}
use Rattle.loop_plan.specs.Pairs.{sets_of, own_in}
use Rattle.loop_plan.specs.declared.types.Pair.{Pair}
use Rattle.loop_plan.specs.Values.{ItemPlanValue, PlanValue, item_plan}

-- among a rank's first so many elements
abbrev pub is_among : ℕ → List ℕ → ℕ → Bool
is_among own originals x = list_any (nat_eq x) (take own originals)

-- sender, receiver, set: how many elements of the set the receiver imports that the sender owns
abbrev pub imported_from : List RankMesh → ℕ → ℕ → ℕ → ℕ
imported_from meshes s r t =
    length (filter (is_among (own_in (sets_of meshes s) t) (originals_in (sets_of meshes s) t))
    (drop (own_in (sets_of meshes r) t) (originals_in (sets_of meshes r) t)))

-- the cells of these dats that the receiver imports from the sender
abbrev pub cells_between : MeshValue → List RankMesh → List ℕ → ℕ → ℕ → ℕ
cells_between g meshes [] s r = 0
cells_between g meshes (d ∷ ds) s r = dat_dim g d * imported_from meshes s r (dat_set g d) + cells_between g meshes ds s r

-- item, sender, receiver: how many cells a message of the plan has
abbrev pub plan_cells : BoundValue → List RankMesh → PlanValue → ℕ → ℕ → ℕ → ℕ
plan_cells b meshes p k s r = cells_between b.mesh meshes (item_plan p k).exchange s r

-- each rank has each set, its own elements among those that it has, and none twice
pub record AreDistinct (g : MeshValue) (meshes : List RankMesh) : Type 0 where
  pub sets : (r : ℕ) → r < length meshes → length (sets_of meshes r) ≡ set_count g
  pub own : (r t : ℕ) → r < length meshes → t < set_count g → own_in (sets_of meshes r) t ≤ length (originals_in (sets_of meshes r) t)
  pub apart : (r t j k : ℕ) → r < length meshes → t < set_count g → j < k → k < length (originals_in (sets_of meshes r) t)
      → slice_index (originals_in (sets_of meshes r) t) j ≢ slice_index (originals_in (sets_of meshes r) t) k

-- by message of an item, its cells
abbrev pub row_of : MeshValue → List RankMesh → ItemPlanValue → List ℕ
row_of g meshes i = map (λ (q : Pair). cells_between g meshes i.exchange q.from q.to) i.pairs

-- rows of numbers
abbrev pub rows_of : List (Vec ℕ Global) → List (List ℕ)
rows_of rows = map (λ (v : Vec ℕ Global). v.items) rows

-- the dats and ranks that an item's messages name are there
pub record IsInside (g : MeshValue) (meshes : List RankMesh) (i : ItemPlanValue) : Type 0 where
  pub dats : (k : ℕ) → k < length i.exchange → slice_index i.exchange k < dat_count g
  pub pairs : All (λ (q : Pair). (q.from < length meshes) × (q.to < length meshes)) i.pairs
