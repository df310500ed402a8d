-- Owners of elements, and new numbers.
use Rattle.std.specs.Prelude.{◌≡◌, ℕ, ◌<◌, ◌≤◌, List, [], length, slice_index, slice_index_or}
use Rattle.mesh_decl.specs.declared.owners.Owners.{Owners}
use Rattle.mesh_decl.specs.declared.owners.Perms.{Perms}
use Rattle.mesh_decl.specs.Mesh.{MeshValue, set_count, set_size}

-- the ranks of a set's elements
unfoldable pub owners_in : Owners → ℕ → List ℕ
owners_in o s = slice_index_or o.sets.items s []

-- the rank of an element
unfoldable pub owner_of : Owners → ℕ → ℕ → ℕ
owner_of o s element = slice_index (owners_in o s) element

-- There are 1 to 64 ranks, and each element of each set has one of them.
pub record AreOwners (g : MeshValue) (o : Owners) : Type 0 where
  pub some_rank : 0 < o.ranks
  pub few_ranks : o.ranks ≤ 64
  pub sets : length o.sets.items ≡ set_count g
  pub lengths : (s : ℕ) → s < set_count g → length (owners_in o s) ≡ set_size g s
  pub below : (s element : ℕ) → s < set_count g → element < set_size g s → owner_of o s element < o.ranks

-- each number below n stands in the list once
pub record IsNumbering (n : ℕ) (xs : List ℕ) : Type 0 where
  pub length : length xs ≡ n
  pub within : (i : ℕ) → i < n → slice_index xs i < n
  pub distinct : (i j : ℕ) → i < n → j < n → slice_index xs i ≡ slice_index xs j → i ≡ j
  pub every : (x : ℕ) → x < n → (i : ℕ) × (i < n) × (slice_index xs i ≡ x)

-- the original numbers of a set's elements, by new number
unfoldable pub perm_in : Perms → ℕ → List ℕ
perm_in p s = slice_index_or p.sets.items s []

-- each set has new numbers for its elements
pub record ArePerms (g : MeshValue) (p : Perms) : Type 0 where
  pub sets : length p.sets.items ≡ set_count g
  pub numbers : (s : ℕ) → s < set_count g → IsNumbering (set_size g s) (perm_in p s)
