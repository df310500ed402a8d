-- Owners by blocks of equal shares.
use Rattle.std.specs.Prelude.{◌≡◌, ℕ, ◌+◌, ◌*◌, ◌/◌, ◌-◌, ◌<◌, ◌≤◌, nat_eq}
use Rattle.mesh_decl.specs.declared.owners.Owners.{Owners}
use Rattle.mesh_decl.specs.Mesh.{MeshValue, set_count, set_size}
use Rattle.mesh_decl.specs.Owners.{AreOwners, owner_of}
use Rattle.lemmas.specs.Below.{count_below}

-- where rank i's block of n elements begins: the floor of i times n by the number of ranks
abbrev pub block_start : ℕ → ℕ → ℕ → ℕ
block_start n ranks i = i * n / ranks

-- how many elements rank i has
abbrev pub share : ℕ → ℕ → ℕ → ℕ
share n ranks i = block_start n ranks (i + 1) - block_start n ranks i

-- x lies in rank i's block
abbrev pub InBlock : ℕ → ℕ → ℕ → ℕ → Type 0
InBlock n ranks i x = (block_start n ranks i ≤ x) × (x < block_start n ranks (i + 1))

-- each element has the rank in whose block it lies, and no other rank has it in its block; each rank has its share
pub record AreBlocks (g : MeshValue) (ranks : ℕ) (o : Owners) : Type 0 where
  pub count : o.ranks ≡ ranks
  pub owners : AreOwners g o
  pub block : (s x : ℕ) → s < set_count g → x < set_size g s → InBlock (set_size g s) ranks (owner_of o s x) x
  pub only : (s x i : ℕ) → s < set_count g → x < set_size g s → InBlock (set_size g s) ranks i x → i ≡ owner_of o s x
  pub shares : (s i : ℕ) → s < set_count g → i < ranks
      → count_below (set_size g s) (λ x. nat_eq (owner_of o s x) i) ≡ share (set_size g s) ranks i
