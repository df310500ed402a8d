use Rattle.std.proofs.Common.{◌≡◌, ◌<◌, ℕ, true, get_or}
use Rattle.rank_program.proofs.constants.marks_of.Given as goal

abbrev pub invariant-loop-cell : goal.invariant-loop-cell
invariant-loop-cell l = (j : ℕ) → j < l.cell-index → get_or l.marks.items (get_or l.cells j 0) true ≡ true
