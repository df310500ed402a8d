-- Which places and blocks conflict, and their colours: the least number that no earlier one in conflict has.
use Rattle.std.specs.Prelude.{◌≡◌, ◌≢◌, ℕ, ◌+◌, ◌*◌, ◌/◌, ◌<◌, ◌≤◌, ◌↔◌, Bool, ◌&&◌, ◌||◌, ◌==◌, nat_lt, Option, Some, None, List, Vec, length, slice_index, slice_index_or, Contains}
use Rattle.std.specs.declared.alloc.Global.{Global}
use Rattle.lemmas.specs.Below.{row}
use Rattle.mesh_decl.specs.declared.access.Via.{Via}
use Rattle.mesh_decl.specs.Mesh.{MeshValue, map_count, dat_count, map_from, map_to, map_dim, target, dat_set}
use Rattle.local_mesh.specs.declared.types.LocalSet.{LocalSet}
use Rattle.local_mesh.specs.LocalMesh.{executed_in}
use Rattle.colouring.specs.Blocks.{IsInBlock}
use Rattle.colouring.specs.declared.types.IncArg.{IncArg}
use Rattle.colouring.specs.declared.types.Colours.{Colours}

-- the local element to which a place leads, directly or by a map
abbrev pub target_by : MeshValue → List (Vec ℕ Global) → ℕ → Option Via → ℕ
target_by g maps place None = place
target_by g maps place (Some v) = slice_index (row maps v.map) (place * map_dim g v.map + v.index)

-- the local element into which a place reduces by an argument
abbrev pub target_of : MeshValue → List (Vec ℕ Global) → ℕ → IncArg → ℕ
target_of g maps place x = target_by g maps place x.via

-- the element that element e of the whole mesh reaches, itself or by a map
abbrev pub reached_by : MeshValue → ℕ → Option Via → ℕ
reached_by g e None = e
reached_by g e (Some v) = target g v.map e v.index

-- two places reduce into a common local element of one dat
abbrev pub Conflict : MeshValue → List (Vec ℕ Global) → List IncArg → ℕ → ℕ → Type 0
Conflict g maps args p q =
    (x : IncArg) × (y : IncArg)
    × Contains args x × Contains args y
    × (x.dat ≡ y.dat) × (target_of g maps p x ≡ target_of g maps q y)

-- two places of one block are in conflict
abbrev pub ConflictWithin : MeshValue → List (Vec ℕ Global) → List IncArg → ℕ → ℕ → ℕ → Type 0
ConflictWithin g maps args size p q = (p / size ≡ q / size) × Conflict g maps args p q

-- a place of one block is in conflict with a place of the other
abbrev pub BlocksConflict : MeshValue → List (Vec ℕ Global) → List IncArg → ℕ → ℕ → ℕ → ℕ → Type 0
BlocksConflict g maps args places size b c =
    (p : ℕ) × (q : ℕ) × IsInBlock places size b p × IsInBlock places size c q × Conflict g maps args p q

-- the colour of p is the least number that no earlier one in conflict with it has
pub record IsLeast (Conflicts : ℕ → ℕ → Type 0) (colours : List ℕ) (p : ℕ) : Type 0 where
  pub free : (q : ℕ) → q < p → Conflicts q p → slice_index colours q ≢ slice_index colours p
  pub taken : (c : ℕ) → c < slice_index colours p → (q : ℕ) × (q < p) × Conflicts q p × (slice_index colours q ≡ c)

-- the colours of the blocks of this size, and of the places within each
pub record AreColours (g : MeshValue) (maps : List (Vec ℕ Global)) (args : List IncArg) (places size : ℕ) (c : Colours) : Type 0 where
  pub blocks_count : (b : ℕ) → (b < length c.blocks.items) ↔ (b * size < places)
  pub inner_count : length c.inner.items ≡ places
  pub blocks : (b : ℕ) → b < length c.blocks.items → IsLeast (BlocksConflict g maps args places size) c.blocks.items b
  pub inner : (p : ℕ) → p < places → IsLeast (ConflictWithin g maps args size) c.inner.items p

-- by these colours p goes before q: its block has a lower colour, or it has a lower one in the same block
abbrev pub goes_before : Colours → ℕ → ℕ → ℕ → Bool
goes_before c size p q =
    nat_lt (slice_index c.blocks.items (p / size)) (slice_index c.blocks.items (q / size))
    || ((p / size == q / size) && nat_lt (slice_index c.inner.items p) (slice_index c.inner.items q))

-- from set s, an argument leads to set t
abbrev pub Leads : MeshValue → ℕ → ℕ → Option Via → Type 0
Leads g s t None = t ≡ s
Leads g s t (Some v) = (v.map < map_count g) × (v.index < map_dim g v.map) × (map_from g v.map ≡ s) × (map_to g v.map ≡ t)

-- an argument of a loop over set s
pub record IsArg (g : MeshValue) (s : ℕ) (x : IncArg) : Type 0 where
  pub dat : x.dat < dat_count g
  pub leads : Leads g s (dat_set g x.dat) x.via

-- arguments of a loop over one set, of which the rank executes as many elements at least
pub record AreArgs (g : MeshValue) (sets : List LocalSet) (places : ℕ) (args : List IncArg) : Type 0 where
  pub set : ℕ
  pub each : (a : ℕ) (d : IncArg) → a < length args → IsArg g set (slice_index_or args a d)
  pub executed : 0 < length args → places ≤ executed_in sets set
