-- What the local mesh of a rank holds.
use Rattle.std.specs.Prelude.{◌≡◌, ◌≢◌, ℕ, zero, suc, ◌+◌, ◌*◌, ◌^◌, ◌<◌, ◌≤◌, false, ◌&&◌, nat_lt, List, [], map, length, slice_index, slice_index_or, Contains}
use Rattle.mesh_decl.specs.declared.owners.Owners.{Owners}
use Rattle.mesh_decl.specs.declared.owners.Perms.{Perms}
use Rattle.mesh_decl.specs.Mesh.{MeshValue, set_count, map_count, dat_count, set_size, map_from, map_to, map_dim, target, dat_set, dat_dim}
use Rattle.lemmas.specs.Below.{row}
use Rattle.local_mesh.specs.Halo.{owns, imports_execute, imports_nonexecute, is_core}
use Rattle.local_mesh.specs.declared.types.LocalSet.{LocalSet}
use Rattle.local_mesh.specs.declared.types.RankMesh.{RankMesh}
use Rattle.local_mesh.specs.Local.{earlier, AreInverse}
use Rattle.local_mesh.specs.Parts.{by_new}

-- One set of rank r: how many elements each group has; originals and local numbers are inverse; an element is core here where r owns it and
-- it is core.
pub record IsLocalSet (g : MeshValue) (o : Owners) (p : Perms) (s r : ℕ) (l : LocalSet) : Type 0 where
  pub own : l.own ≡ earlier (by_new p s) (λ x. owns o s x r) (set_size g s)
  pub exec : l.exec ≡ earlier (by_new p s) (λ x. imports_execute g o s x r) (set_size g s)
  pub nonexec : l.nonexec ≡ earlier (by_new p s) (λ x. imports_nonexecute g o s x r) (set_size g s)
  pub inverse : AreInverse (set_size g s) (by_new p s) (λ x. owns o s x r) (λ x. imports_execute g o s x r)
      (λ x. imports_nonexecute g o s x r) l.original
  pub core_count : length l.core.items ≡ length l.original
  pub core : (k : ℕ) → k < length l.original
      → slice_index_or l.core.items k false ≡ (nat_lt k l.own && is_core g o s (slice_index l.original k))

-- the original numbers of a rank's elements of a set, by local number
unfoldable pub originals_in : List LocalSet → ℕ → List ℕ
originals_in sets s = slice_index_or (map (λ (l : LocalSet). l.original) sets) s []

-- how many elements of a set a rank executes: owned or import execute
unfoldable pub executed_in : List LocalSet → ℕ → ℕ
executed_in sets s = slice_index (map (λ (l : LocalSet). l.own + l.exec) sets) s

-- how many cells the dats before dat d have: its dim for each local element of its set
abbrev pub cells_before : MeshValue → List LocalSet → ℕ → ℕ
cells_before g sets zero = 0
cells_before g sets (suc d) = cells_before g sets d + length (originals_in sets (dat_set g d)) * dat_dim g d

-- Local targets of what is executed: the element with that local number is the target.
pub record AreLocalTargets (g : MeshValue) (m : ℕ) (sets : List LocalSet) (table : List ℕ) : Type 0 where
  pub count : length table ≡ executed_in sets (map_from g m) * map_dim g m
  pub within : (k i : ℕ) → k < executed_in sets (map_from g m) → i < map_dim g m
      → slice_index table (k * map_dim g m + i) < length (originals_in sets (map_to g m))
  pub targets : (k i : ℕ) → k < executed_in sets (map_from g m) → i < map_dim g m
      → slice_index (originals_in sets (map_to g m)) (slice_index table (k * map_dim g m + i))
      ≡ target g m (slice_index (originals_in sets (map_from g m)) k) i

-- Different elements of each set, with the targets of what is executed among them.
pub record AreClosed (g : MeshValue) (sets : List LocalSet) : Type 0 where
  pub count : length sets ≡ set_count g
  pub few : (s : ℕ) → s < set_count g → length (originals_in sets s) < 2 ^ 32
  pub executed : (s : ℕ) → s < set_count g → executed_in sets s ≤ length (originals_in sets s)
  pub within : (s k : ℕ) → s < set_count g → k < length (originals_in sets s) → slice_index (originals_in sets s) k < set_size g s
  pub apart : (s j k : ℕ) → s < set_count g → j < k → k < length (originals_in sets s)
      → slice_index (originals_in sets s) j ≢ slice_index (originals_in sets s) k
  pub targets : (m k i : ℕ) → m < map_count g → k < executed_in sets (map_from g m) → i < map_dim g m
      → Contains (originals_in sets (map_to g m)) (target g m (slice_index (originals_in sets (map_from g m)) k) i)

-- Where each dat begins, and how many cells there are.
pub record AreBases (g : MeshValue) (sets : List LocalSet) (starts : List ℕ) (total : ℕ) : Type 0 where
  pub count : length starts ≡ dat_count g
  pub bases : (d : ℕ) → d < dat_count g → slice_index starts d ≡ cells_before g sets d
  pub cells : total ≡ cells_before g sets (dat_count g)

-- The local mesh of rank r: its sets, the local targets of what it executes, and the cells of its dats.
pub record IsRankMesh (g : MeshValue) (o : Owners) (p : Perms) (r : ℕ) (m : RankMesh) : Type 0 where
  pub sets_count : length m.sets.items ≡ set_count g
  pub sets : (s : ℕ) (d : LocalSet) → s < set_count g → IsLocalSet g o p s r (slice_index_or m.sets.items s d)
  pub maps_count : length m.maps.items ≡ map_count g
  pub maps : (k : ℕ) → k < map_count g → AreLocalTargets g k m.sets.items (row m.maps.items k)
  pub bases : AreBases g m.sets.items m.bases.items m.cells

-- one local mesh for each rank
pub record AreRankMeshes (g : MeshValue) (o : Owners) (p : Perms) (meshes : List RankMesh) : Type 0 where
  pub count : length meshes ≡ o.ranks
  pub ranks : (r : ℕ) (d : RankMesh) → r < o.ranks → IsRankMesh g o p r (slice_index_or meshes r d)
