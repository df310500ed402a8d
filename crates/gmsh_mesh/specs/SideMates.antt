-- Sides that have the same nodes: a face is a side that two cells have, or one.
use Rattle.std.specs.Prelude.{◌≡◌, ◌<◌, ◌⊎◌, ◌↔◌, ℕ, List, length, slice_index}
use Rattle.gmsh_mesh.specs.declared.equal_keys.pairing.MateRefusal.{MateRefusal}
use Rattle.gmsh_mesh.specs.declared.equal_keys.pairing.MateRefusal.TheVariants.{Third, OutOfMemory}
use Rattle.gmsh_mesh.specs.Nodes.{row, IsSameNodes}

-- two sides, rows of a table of sides, have the same nodes
abbrev pub IsSameSide : List ℕ → ℕ → ℕ → ℕ → Type 0
IsSameSide sides width i j = IsSameNodes (row sides width i) (row sides width j)

-- Sides i and m have the same nodes, and no other side has them. Where i is m there is one.
pub record IsSideMate (sides : List ℕ) (width count i m : ℕ) : Type 0 where
  pub within : m < count
  pub same : IsSameSide sides width m i
  pub others : (j : ℕ) → j < count → IsSameSide sides width j i → (j ≡ i) ⊎ (j ≡ m)

-- each side's mate
pub record AreSideMates (sides : List ℕ) (width count : ℕ) (of : List ℕ) : Type 0 where
  pub size : length of ≡ count
  pub mates : (i : ℕ) → i < count → IsSideMate sides width count i (slice_index of i)

-- sides that have the same nodes have one class, and others have others; classes are below the number of sides
pub record AreSideClasses (sides : List ℕ) (width count : ℕ) (of : List ℕ) : Type 0 where
  pub size : length of ≡ count
  pub small : (i : ℕ) → i < count → slice_index of i < count
  pub same : (i j : ℕ) → i < count → j < count → (slice_index of i ≡ slice_index of j) ↔ IsSameSide sides width i j

-- two sides in front of this one have its nodes
pub record IsThirdSide (sides : List ℕ) (width count place : ℕ) : Type 0 where
  pub first : ℕ
  pub second : ℕ
  pub apart : first < second
  pub before : second < place
  pub within : place < count
  pub first_same : IsSameSide sides width first place
  pub second_same : IsSameSide sides width second place

-- the first such side
pub record IsFirstThirdSide (sides : List ℕ) (width count place : ℕ) : Type 0 where
  pub third : IsThirdSide sides width count place
  pub none_before : (k : ℕ) → k < place → IsThirdSide sides width count k → ⊥

-- memory ran out, or the first third side is told
abbrev pub IsSidesRefused : List ℕ → ℕ → ℕ → MateRefusal → Type 0
IsSidesRefused sides width count (Third place) = IsFirstThirdSide sides width count place
IsSidesRefused sides width count OutOfMemory = Unit {0}
