-- That owners by blocks, and owners derived from given ones, are one.
use Rattle.std.specs.Prelude.{◌≡◌, ℕ, ◌<◌, Bool, true, List}
use Rattle.mesh_decl.specs.declared.owners.Owners.{Owners}
use Rattle.mesh_decl.specs.Mesh.{MeshValue, IsMapAt, set_count, map_count}
use Rattle.partition.specs.Block.{AreBlocks}
use Rattle.partition.specs.Derive.{AreDerived}

-- a mesh has one partition by blocks
abbrev pub IsOneBlocks : Type 0
IsOneBlocks =
    (g : MeshValue) (ranks : ℕ) (a b : Owners)
    → AreBlocks g ranks a
    → AreBlocks g ranks b
    → a.sets.items ≡ b.sets.items

-- from the same owners of the same sets, the others have one derivation
abbrev pub IsOneDerived : Type 0
IsOneDerived =
    (g : MeshValue) (a b : Owners) (given : ℕ → Bool) (lists others : ℕ → List ℕ)
    → ((m : ℕ) → m < map_count g → IsMapAt g m)
    → a.ranks ≡ b.ranks
    → ((s : ℕ) → s < set_count g → given s ≡ true → lists s ≡ others s)
    → AreDerived g a given lists
    → AreDerived g b given others
    → a.sets.items ≡ b.sets.items
