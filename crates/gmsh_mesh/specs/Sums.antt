-- Sums over numbers from 0, and what the mates of sides are to be for the law of faces.
use Rattle.std.specs.Prelude.{◌≡◌, ◌+◌, ◌<◌, ℕ, zero, suc, List, slice_index, Bool, true, false}

-- the sum of the values of the first n numbers
unfoldable pub sum_below : ℕ → (ℕ → ℕ) → ℕ
sum_below zero f = 0
sum_below (suc n) f = sum_below n f + f n

-- 1 where it is so
abbrev pub one_if : Bool → ℕ
one_if true = 1
one_if false = 0

-- each of the first n sides has a mate among them, of which it is the mate; it may be its own
pub record AreMutual (mates : List ℕ) (n : ℕ) : Type 0 where
  pub below : (i : ℕ) → i < n → slice_index mates i < n
  pub back : (i : ℕ) → i < n → slice_index mates (slice_index mates i) ≡ i
