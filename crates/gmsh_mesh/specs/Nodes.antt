-- Rows of nodes that have the same nodes, in whatever order.
use Rattle.std.specs.Prelude.{◌≡◌, ◌<◌, ℕ, ◌+◌, ◌*◌, nat_eq, List, length, take, drop, if◌then◌else◌}
use Rattle.std.specs.List.{sum_by}
use Rattle.std.specs.List.Sorted.{IsNonDecreasing}

-- the row at a place, of rows that stand one behind another
abbrev pub row : List ℕ → ℕ → ℕ → List ℕ
row rows width r = take width (drop (r * width) rows)

-- how often a node stands in a row
abbrev pub times : ℕ → List ℕ → ℕ
times x nodes = sum_by (λ y. if nat_eq y x then 1 else 0) nodes

-- each node stands as often in one as in the other
abbrev pub IsSameNodes : List ℕ → List ℕ → Type 0
IsSameNodes a b = (x : ℕ) → times x a ≡ times x b

-- a row with the same nodes in rising order
pub record IsInOrder (old new : List ℕ) : Type 0 where
  pub rises : IsNonDecreasing new
  pub same : IsSameNodes old new

-- each row with its nodes in rising order
pub record AreInOrder (count width : ℕ) (old new : List ℕ) : Type 0 where
  pub size : length new ≡ length old
  pub rows : (r : ℕ) → r < count → IsInOrder (row old width r) (row new width r)

-- each of the first rows with its nodes in rising order; the others are as they were
pub record AreInOrderUpTo (upto count width : ℕ) (old new : List ℕ) : Type 0 where
  pub size : length new ≡ length old
  pub rows : (r : ℕ) → r < upto → IsInOrder (row old width r) (row new width r)
  pub others : (r : ℕ) → upto < r + 1 → r < count → row new width r ≡ row old width r
