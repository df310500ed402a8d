use Rattle.partition.proofs.part_text.Exact.{one-partition}
use Rattle.partition.proofs.part_text.read.one_partition.Goals as goal

pub returns : goal.returns
returns c = one-partition
