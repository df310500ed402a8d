-- A stage for each colour, so that colours however large need no table of their size.
use Rattle.std.specs.Prelude.{◌≡◌, ◌<◌, ◌≤◌, ◌↔◌, ℕ, List, get_or, length}

-- the place where the numbers below c end in a list in order
pub record Point (sorted : List ℕ) (c r : ℕ) : Type 0 where
  pub within : r ≤ length sorted
  pub below : (k : ℕ) → k < r → get_or sorted k 0 < c
  pub above : (k : ℕ) → r ≤ k → k < length sorted → c ≤ get_or sorted k 0

-- lower stages are lower colours
pub record Ranked (colours of : List ℕ) : Type 0 where
  pub size : length of ≡ length colours
  pub small : (i : ℕ) → i < length colours → get_or of i 0 < length colours
  pub order : (i j : ℕ) → i < length colours → j < length colours
      → (get_or of i 0 < get_or of j 0) ↔ (get_or colours i 0 < get_or colours j 0)
