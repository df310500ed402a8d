use Rattle.std.proofs.Common.{◌≡◌, ℕ, ◌<◌, ◌≤◌, ◌+◌, ◌⊎◌, get_or}
use Rattle.rank_layout.proofs.constant_table.put_constants.Given as goal

abbrev pub invariant-loop-i : goal.invariant-loop-i
invariant-loop-i l =
    ((k : ℕ) → k < l.i → get_or l.table (l.first + k) 0 ≡ l.start + k)
    × ((j : ℕ) → (j < l.first) ⊎ (l.first + l.count ≤ j) → get_or l.table j 0 ≡ get_or l.fn.table j 0)
