-- Whether a number stands in a list.
use Rattle.std.specs.Prelude.{ℕ, Bool, nat_eq, List, length, slice_index}
use Rattle.lemmas.specs.Below.{any_below}

-- y is one of the numbers
unfoldable pub stands : List ℕ → ℕ → Bool
stands xs y = any_below (length xs) (λ k. nat_eq (slice_index xs k) y)
