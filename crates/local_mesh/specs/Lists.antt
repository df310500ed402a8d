-- The local numbers of elements on their owners, and of what ranks export and import.
use Rattle.std.specs.Prelude.{◌≡◌, ◌≢◌, ℕ, ◌^◌, ◌<◌, ◌≤◌, ◌↔◌, true, List, [], Vec, map, length, slice_index, slice_index_or, Contains}
use Rattle.std.specs.declared.alloc.Global.{Global}
use Rattle.mesh_decl.specs.declared.owners.Owners.{Owners}
use Rattle.mesh_decl.specs.Mesh.{MeshValue, set_count, set_size}
use Rattle.mesh_decl.specs.Owners.{owner_of}
use Rattle.lemmas.specs.Below.{row, rows}
use Rattle.local_mesh.specs.Halo.{owns, has_copy}
use Rattle.local_mesh.specs.declared.halo_lists.types.SetHalo.{SetHalo}
use Rattle.local_mesh.specs.declared.halo_lists.types.Halos.{Halos}
use Rattle.local_mesh.specs.declared.types.LocalSet.{LocalSet}
use Rattle.local_mesh.specs.declared.types.RankMesh.{RankMesh}
use Rattle.local_mesh.specs.declared.lists.LocalLists.{LocalLists}
use Rattle.local_mesh.specs.LocalMesh.{originals_in}
use Rattle.local_mesh.specs.Numbers.{own_in}

-- the sets of a rank
unfoldable pub sets_of : List RankMesh → ℕ → List LocalSet
sets_of meshes r = slice_index_or (map (λ (m : RankMesh). m.sets.items) meshes) r []

-- of set s, the original numbers of rank r's elements, by local number
abbrev pub originals_of : List RankMesh → ℕ → ℕ → List ℕ
originals_of meshes r s = originals_in (sets_of meshes r) s

-- among these originals, k is the local number of element x
abbrev pub IsLocal : List ℕ → ℕ → ℕ → Type 0
IsLocal original x k = (k < length original) × (slice_index original k ≡ x)

-- among these originals, the local numbers of some elements, in their order
pub record AreLocals (original elements locals : List ℕ) : Type 0 where
  pub count : length locals ≡ length elements
  pub each : (k : ℕ) → k < length elements → IsLocal original (slice_index elements k) (slice_index locals k)

-- each element of set s has its local number on its owner
pub record AreAtOwners (g : MeshValue) (o : Owners) (meshes : List RankMesh) (s : ℕ) (numbers : List ℕ) : Type 0 where
  pub count : length numbers ≡ set_size g s
  pub each : (x : ℕ) → x < set_size g s → IsLocal (originals_of meshes (owner_of o s x) s) x (slice_index numbers x)

-- by owner a and rank r, a's local numbers of what r imports from it
pub record AreExports (o : Owners) (meshes : List RankMesh) (s : ℕ) (h : SetHalo) (lists : List (Vec (Vec ℕ Global) Global)) : Type 0 where
  pub count : length lists ≡ o.ranks
  pub counts : (a : ℕ) → a < o.ranks → length (rows lists a) ≡ o.ranks
  pub each : (a r : ℕ) → a < o.ranks → r < o.ranks
      → AreLocals (originals_of meshes a s) (row (rows h.exports.items a) r) (row (rows lists a) r)

-- by rank r and owner a, r's local numbers of the same
pub record AreImports (o : Owners) (meshes : List RankMesh) (s : ℕ) (h : SetHalo) (lists : List (Vec (Vec ℕ Global) Global)) : Type 0 where
  pub count : length lists ≡ o.ranks
  pub counts : (r : ℕ) → r < o.ranks → length (rows lists r) ≡ o.ranks
  pub each : (r a : ℕ) → r < o.ranks → a < o.ranks
      → AreLocals (originals_of meshes r s) (row (rows h.exports.items a) r) (row (rows lists r) a)

-- the lists of set s
pub record IsLocalLists (g : MeshValue) (o : Owners) (meshes : List RankMesh) (s : ℕ) (h : SetHalo) (t : LocalLists) : Type 0 where
  pub owners : AreAtOwners g o meshes s t.at_owner
  pub exports : AreExports o meshes s h t.exports.items
  pub imports : AreImports o meshes s h t.imports.items

-- the lists of each set
pub record AreLocalLists (g : MeshValue) (o : Owners) (h : Halos) (meshes : List RankMesh) (lists : List LocalLists) : Type 0 where
  pub count : length lists ≡ set_count g
  pub sets : (s : ℕ) (d : SetHalo) (e : LocalLists) → s < set_count g
      → IsLocalLists g o meshes s (slice_index_or h.sets.items s d) (slice_index_or lists s e)

-- Rank r has different elements of set s, those that it owns first, and all that it owns or imports.
pub record IsHeld (g : MeshValue) (o : Owners) (s r : ℕ) (sets : List LocalSet) : Type 0 where
  pub here : s < length sets
  pub few : length (originals_in sets s) < 2 ^ 32
  pub held : own_in sets s ≤ length (originals_in sets s)
  pub within : (k : ℕ) → k < length (originals_in sets s) → slice_index (originals_in sets s) k < set_size g s
  pub apart : (j k : ℕ) → j < k → k < length (originals_in sets s)
      → slice_index (originals_in sets s) j ≢ slice_index (originals_in sets s) k
  pub owned : (k : ℕ) → k < length (originals_in sets s)
      → (k < own_in sets s) ↔ (owns o s (slice_index (originals_in sets s) k) r ≡ true)
  pub copies : (x : ℕ) → Contains (originals_in sets s) x ↔ ((x < set_size g s) × (has_copy g o s x r ≡ true))

-- so does each rank
pub record AreHeld (g : MeshValue) (o : Owners) (meshes : List RankMesh) (s : ℕ) : Type 0 where
  pub count : length meshes ≡ o.ranks
  pub ranks : (r : ℕ) → r < o.ranks → IsHeld g o s r (sets_of meshes r)

-- each number of a list is below n
abbrev pub IsBelow : ℕ → List ℕ → Type 0
IsBelow n xs = (k : ℕ) → k < length xs → slice_index xs k < n

-- each number of each list is below n
abbrev pub AreBelow : ℕ → List (Vec ℕ Global) → Type 0
AreBelow n lists = (r : ℕ) → r < length lists → IsBelow n (row lists r)

-- what stands in the table at each of these places
pub record AreRead (table places read : List ℕ) : Type 0 where
  pub count : length read ≡ length places
  pub each : (k : ℕ) → k < length places → slice_index read k ≡ slice_index table (slice_index places k)

-- what stands in the table at the places of each list
pub record AreAllRead (table : List ℕ) (lists read : List (Vec ℕ Global)) : Type 0 where
  pub count : length read ≡ length lists
  pub each : (r : ℕ) → r < length lists → AreRead table (row lists r) (row read r)
