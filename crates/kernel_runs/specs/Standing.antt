-- Where the cells that spans gather stand in the memory.
use Rattle.std.specs.Prelude.{◌≡◌, ◌<◌, ◌+◌, ◌-◌, ℕ, Bool, false, cond, nat_lt, List, [], ◌∷◌}
use Rattle.rank_state.specs.declared.spans.Span.{Span}
use Rattle.rank_state.specs.Spans.{total}

-- where the cell of that number among the gathered ones stands in the memory
abbrev pub stands_at : List Span → ℕ → ℕ
stands_at [] j = j
stands_at (s ∷ ss) j = cond (nat_lt j s.dim) (s.at + j) (stands_at ss (j - s.dim))

-- whether the span of the cell of that number is written
abbrev pub is_written : List Span → ℕ → Bool
is_written [] j = false
is_written (s ∷ ss) j = cond (nat_lt j s.dim) s.writes (is_written ss (j - s.dim))

-- no cell of the memory is gathered twice
abbrev pub Apart : List Span → Type 0
Apart spans = (i j : ℕ) → i < total spans → j < total spans → stands_at spans i ≡ stands_at spans j → i ≡ j

-- no written span has the memory's cell
abbrev pub IsUnwritten : List Span → ℕ → Type 0
IsUnwritten spans i = (j : ℕ) → j < total spans → stands_at spans j ≡ i → is_written spans j ≡ false
