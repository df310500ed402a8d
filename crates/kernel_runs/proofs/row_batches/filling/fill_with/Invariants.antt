use Rattle.std.proofs.Common.{◌≡◌, ◌<◌, ℕ, length}
use Rattle.kernel_columns.specs.declared.columns.TheConstants.{ROWS}
use Rattle.kernel_columns.specs.Rows.{at_row}
use Rattle.kernel_runs.proofs.row_batches.filling.fill_with.Given as goal

abbrev pub invariant-loop-l : goal.invariant-loop-l
invariant-loop-l l = (length l.column ≡ ROWS) × ((k : ℕ) → k < l.l → at_row k l.column ≡ l.number)
