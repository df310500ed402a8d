use Rattle.std.proofs.Common.{◌≡◌, ◌<◌, ◌+◌, ℕ, get_or}
use Rattle.kernel_runs.specs.RowLoops.{no_column}
use Rattle.kernel_runs.proofs.row_batches.batch_tables.columns.put_components.Given as goal

abbrev pub invariant-loop-j : goal.invariant-loop-j
invariant-loop-j l = record {
  before : (c : ℕ) → c < l.from → get_or l.columns c no_column ≡ get_or l.fn.columns c no_column;
  are : (i : ℕ) → i < l.j → get_or l.columns (l.from + i) no_column ≡ record l.column { cell = l.column.cell + i };
}
