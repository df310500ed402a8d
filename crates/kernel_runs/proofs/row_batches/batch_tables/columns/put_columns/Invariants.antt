use Rattle.kernel_runs.specs.Tables.{AreColumns}
use Rattle.kernel_runs.proofs.row_batches.batch_tables.columns.put_columns.Given as goal

abbrev pub invariant-loop-a : goal.invariant-loop-a
invariant-loop-a l = AreColumns l.args l.locals l.numbers l.columns l.places l.a l.count
