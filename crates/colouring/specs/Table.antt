-- Numbers for all targets of a loop's arguments.
use Rattle.std.specs.Prelude.{◌≡◌, ℕ, ◌+◌, ◌*◌, ◌<◌, ◌≤◌, ◌⊎◌, List, Vec, length, slice_index, slice_index_or}
use Rattle.std.specs.declared.alloc.Global.{Global}
use Rattle.mesh_decl.specs.Mesh.{MeshValue, set_count, map_count, dat_set}
use Rattle.lemmas.specs.Below.{row}
use Rattle.local_mesh.specs.declared.types.LocalSet.{LocalSet}
use Rattle.local_mesh.specs.declared.types.RankMesh.{RankMesh}
use Rattle.local_mesh.specs.LocalMesh.{originals_in, executed_in, AreLocalTargets}
use Rattle.colouring.specs.declared.types.IncArg.{IncArg}
use Rattle.colouring.specs.Colours.{target_of}
use Rattle.colouring.specs.Rows.{none}

-- how many local elements the rank has of a dat's set
abbrev pub copies_of : MeshValue → List LocalSet → ℕ → ℕ
copies_of g sets d = length (originals_in sets (dat_set g d))

-- what the table needs of a rank's local mesh
pub record IsRankOf (g : MeshValue) (m : RankMesh) : Type 0 where
  pub sets_count : length m.sets.items ≡ set_count g
  pub maps_count : length m.maps.items ≡ map_count g
  pub maps : (k : ℕ) → k < map_count g → AreLocalTargets g k m.sets.items (row m.maps.items k)
  pub executed : (s : ℕ) → s < set_count g → executed_in m.sets.items s ≤ length (originals_in m.sets.items s)

-- The dats that have a base have ranges of numbers below total, and different ones are apart.
pub record AreBases (size : ℕ → ℕ) (bases : List ℕ) (total : ℕ) : Type 0 where
  pub few : total < none
  pub within : (d : ℕ) → d < length bases → (slice_index bases d ≡ none → ⊥) → slice_index bases d + size d ≤ total
  pub apart : (d e : ℕ)
      → d < length bases → e < length bases
      → (slice_index bases d ≡ none → ⊥)
      → (slice_index bases e ≡ none → ⊥)
      → (d ≡ e → ⊥)
      → (slice_index bases d + size d ≤ slice_index bases e) ⊎ (slice_index bases e + size e ≤ slice_index bases d)

-- each of the first n arguments has the base of its dat
abbrev pub HaveBases : List IncArg → List ℕ → List ℕ → ℕ → Type 0
HaveBases args starts bases n =
    (a : ℕ) (x : IncArg) → a < n
    → (slice_index starts a ≡ slice_index bases (slice_index_or args a x).dat)
    × (slice_index bases (slice_index_or args a x).dat ≡ none → ⊥)

-- The first number of each argument: one for each dat, and the numbers of different dats are apart.
pub record AreStarts (size : ℕ → ℕ) (args : List IncArg) (starts : List ℕ) (total : ℕ) : Type 0 where
  pub count : length starts ≡ length args
  pub few : total < none
  pub within : (a : ℕ) (x : IncArg) → a < length args → slice_index starts a + size (slice_index_or args a x).dat ≤ total
  pub same : (a b : ℕ) (x : IncArg)
      → a < length args → b < length args
      → (slice_index_or args a x).dat ≡ (slice_index_or args b x).dat
      → slice_index starts a ≡ slice_index starts b
  pub apart : (a b : ℕ) (x : IncArg)
      → a < length args → b < length args
      → ((slice_index_or args a x).dat ≡ (slice_index_or args b x).dat → ⊥)
      → (slice_index starts a + size (slice_index_or args a x).dat ≤ slice_index starts b)
      ⊎ (slice_index starts b + size (slice_index_or args b x).dat ≤ slice_index starts a)

-- place by place, the number of each argument's target
pub record IsTable
    (g : MeshValue) (maps : List (Vec ℕ Global)) (args : List IncArg) (starts : List ℕ) (places : ℕ) (table : List ℕ)
    : Type 0 where
  pub count : length table ≡ places * length args
  pub at : (p a : ℕ) (x : IncArg)
      → p < places → a < length args
      → slice_index table (p * length args + a) ≡ slice_index starts a + target_of g maps p (slice_index_or args a x)
