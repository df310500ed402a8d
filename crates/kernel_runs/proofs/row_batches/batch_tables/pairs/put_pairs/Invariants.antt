use Rattle.kernel_runs.specs.Tables.{ArePairs}
use Rattle.kernel_runs.proofs.row_batches.batch_tables.pairs.put_pairs.Given as goal

abbrev pub invariant-loop-a : goal.invariant-loop-a
invariant-loop-a l = ArePairs l.args l.numbers l.pairs l.a 0 l.count
