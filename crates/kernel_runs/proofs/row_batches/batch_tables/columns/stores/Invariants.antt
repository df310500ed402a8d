use Rattle.std.proofs.Common.{◌<◌, ℕ, get_or}
use Rattle.kernel_runs.specs.RowLoops.{no_column}
use Rattle.kernel_runs.specs.Tables.{IsStored}
use Rattle.kernel_runs.proofs.row_batches.batch_tables.columns.stores.Given as goal

abbrev pub invariant-loop-column : goal.invariant-loop-column
invariant-loop-column l = (c : ℕ) → c < l.column-index → IsStored (get_or l.columns c no_column) → ⊥
