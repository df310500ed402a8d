use Rattle.kernel_runs.specs.Tables.{IsSharedBy}
use Rattle.kernel_runs.proofs.row_batches.batch_tables.access.shared_access.Given as goal

abbrev pub invariant-loop-b : goal.invariant-loop-b
invariant-loop-b l = IsSharedBy l.args l.a l.shared l.b
