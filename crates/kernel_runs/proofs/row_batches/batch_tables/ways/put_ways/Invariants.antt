use Rattle.kernel_runs.specs.Tables.{AreWays}
use Rattle.kernel_runs.proofs.row_batches.batch_tables.ways.put_ways.Given as goal

abbrev pub invariant-loop-a : goal.invariant-loop-a
invariant-loop-a l = AreWays l.args l.locals l.numbers l.ways l.a
