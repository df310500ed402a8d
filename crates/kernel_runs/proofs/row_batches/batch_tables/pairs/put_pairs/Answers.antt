use Rattle.kernel_runs.proofs.row_batches.batch_tables.PairsPut.{next_argument}
use Rattle.kernel_runs.proofs.row_batches.batch_tables.pairs.put_pairs.Goals as goal

pub loop-a-preserved : goal.loop-a-preserved
loop-a-preserved c =
    next_argument c.args.args.now c.args.numbers.now c.put_pairs_of.new.pairs c.loop-a.a c.in_ok-count.count c.in_ok-count.ensures
