use Rattle.kernel_runs.specs.Tables.{ArePairs}
use Rattle.kernel_runs.proofs.row_batches.batch_tables.pairs.put_pairs_of.Given as goal

abbrev pub invariant-loop-b : goal.invariant-loop-b
invariant-loop-b l = ArePairs l.args l.numbers l.pairs l.a l.b l.count
