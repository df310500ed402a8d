-- What the local numbers of a rank say.
use Rattle.std.specs.Prelude.{◌≡◌, ℕ, ◌+◌, ◌*◌, ◌<◌, ◌↔◌, Bool, true, false, ◌&&◌, List, [], map, length, slice_index, slice_index_or, Contains}
use Rattle.mesh_decl.specs.declared.owners.Owners.{Owners}
use Rattle.mesh_decl.specs.declared.owners.Perms.{Perms}
use Rattle.mesh_decl.specs.Mesh.{MeshValue, set_count, set_size, map_count, map_from, map_to, map_dim, target, IsInRange}
use Rattle.mesh_decl.specs.Owners.{ArePerms}
use Rattle.lemmas.specs.Below.{row}
use Rattle.local_mesh.specs.Halo.{owns, executes, has_copy, is_core}
use Rattle.local_mesh.specs.declared.types.LocalSet.{LocalSet}
use Rattle.local_mesh.specs.declared.types.RankMesh.{RankMesh}
use Rattle.local_mesh.specs.LocalMesh.{originals_in, executed_in, AreClosed, IsRankMesh}

-- how many elements of a set a rank owns
unfoldable pub own_in : List LocalSet → ℕ → ℕ
own_in sets s = slice_index (map (λ (l : LocalSet). l.own) sets) s

-- which local elements of a set are core
unfoldable pub core_in : List LocalSet → ℕ → List Bool
core_in sets s = slice_index_or (map (λ (l : LocalSet). l.core.items) sets) s []

-- the original number of the element of set s with local number k
abbrev pub original_at : RankMesh → ℕ → ℕ → ℕ
original_at m s k = slice_index (originals_in m.sets.items s) k

-- by map a, the local number of the target at place i of the element with local number k
abbrev pub local_target : MeshValue → RankMesh → ℕ → ℕ → ℕ → ℕ
local_target g m a k i = slice_index (row m.maps.items a) (k * map_dim g a + i)

-- what a rank owns has the first local numbers
abbrev pub OwnedComeFirst : Type 0
OwnedComeFirst =
    (g : MeshValue) (o : Owners) (p : Perms) (r : ℕ) (m : RankMesh)
    → IsRankMesh g o p r m
    → (s k : ℕ) → s < set_count g → k < length (originals_in m.sets.items s)
    → (k < own_in m.sets.items s) ↔ (owns o s (original_at m s k) r ≡ true)

-- what a rank executes has the first local numbers
abbrev pub ExecutedComeFirst : Type 0
ExecutedComeFirst =
    (g : MeshValue) (o : Owners) (p : Perms) (r : ℕ) (m : RankMesh)
    → IsRankMesh g o p r m
    → (s k : ℕ) → s < set_count g → k < length (originals_in m.sets.items s)
    → (k < executed_in m.sets.items s) ↔ (executes g o s (original_at m s k) r ≡ true)

-- an element has one local number
abbrev pub OriginalsAreDistinct : Type 0
OriginalsAreDistinct =
    (g : MeshValue) (o : Owners) (p : Perms) (r : ℕ) (m : RankMesh)
    → ArePerms g p
    → IsRankMesh g o p r m
    → (s j k : ℕ) → s < set_count g
    → j < length (originals_in m.sets.items s) → k < length (originals_in m.sets.items s)
    → original_at m s j ≡ original_at m s k
    → j ≡ k

-- the elements that a rank has are those that it owns or imports
abbrev pub OriginalsAreHeld : Type 0
OriginalsAreHeld =
    (g : MeshValue) (o : Owners) (p : Perms) (r : ℕ) (m : RankMesh)
    → ArePerms g p
    → IsRankMesh g o p r m
    → (s x : ℕ) → s < set_count g
    → Contains (originals_in m.sets.items s) x ↔ ((x < set_size g s) × (has_copy g o s x r ≡ true))

-- a local element is marked as core exactly where the rank owns it and all its targets
abbrev pub CoreIsMarked : Type 0
CoreIsMarked =
    (g : MeshValue) (o : Owners) (p : Perms) (r : ℕ) (m : RankMesh)
    → IsRankMesh g o p r m
    → (s k : ℕ) → s < set_count g → k < length (originals_in m.sets.items s)
    → slice_index_or (core_in m.sets.items s) k false ≡ (owns o s (original_at m s k) r && is_core g o s (original_at m s k))

-- a rank has different elements, with the targets of what it executes among them
abbrev pub RankMeshesAreClosed : Type 0
RankMeshesAreClosed =
    (g : MeshValue) (o : Owners) (p : Perms) (r : ℕ) (m : RankMesh)
    → IsInRange g
    → ArePerms g p
    → IsRankMesh g o p r m
    → AreClosed g m.sets.items

-- a local element is the target exactly where its number is the local target
abbrev pub TargetsAreLocal : Type 0
TargetsAreLocal =
    (g : MeshValue) (o : Owners) (p : Perms) (r : ℕ) (m : RankMesh)
    → IsInRange g
    → ArePerms g p
    → IsRankMesh g o p r m
    → (a k i l : ℕ) → a < map_count g
    → k < executed_in m.sets.items (map_from g a) → i < map_dim g a
    → l < length (originals_in m.sets.items (map_to g a))
    → (target g a (original_at m (map_from g a) k) i ≡ original_at m (map_to g a) l) ↔ (local_target g m a k i ≡ l)

-- two targets of elements that a rank executes, by maps to one set, are equal exactly where their local numbers are
abbrev pub EqualTargetsAreLocal : Type 0
EqualTargetsAreLocal =
    (g : MeshValue) (o : Owners) (p : Perms) (r : ℕ) (m : RankMesh)
    → IsInRange g
    → ArePerms g p
    → IsRankMesh g o p r m
    → (a b j k i l : ℕ) → a < map_count g → b < map_count g → map_to g a ≡ map_to g b
    → j < executed_in m.sets.items (map_from g a) → i < map_dim g a
    → k < executed_in m.sets.items (map_from g b) → l < map_dim g b
    → (target g a (original_at m (map_from g a) j) i ≡ target g b (original_at m (map_from g b) k) l)
    ↔ (local_target g m a j i ≡ local_target g m b k l)
