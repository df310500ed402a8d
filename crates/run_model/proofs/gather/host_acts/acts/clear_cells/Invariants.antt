use Rattle.std.proofs.Common.{◌≡◌, ℕ, ◌<◌, ◌≤◌, ◌+◌, ◌⊎◌, get_or, pos}
use Rattle.run_model.proofs.gather.host_acts.acts.clear_cells.Given as goal

abbrev pub invariant-loop-i : goal.invariant-loop-i
invariant-loop-i l =
    ((k : ℕ) → k < l.i → get_or l.cells (l.from + k) (pos 0) ≡ pos 0)
    × ((k : ℕ) → (k < l.from) ⊎ (l.from + l.count ≤ k) → get_or l.cells k (pos 0) ≡ get_or l.fn.cells k (pos 0))
