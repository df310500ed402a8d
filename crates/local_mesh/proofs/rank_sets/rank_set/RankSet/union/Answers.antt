use Rattle.local_mesh.specs.RankSet.{has}
use Rattle.local_mesh.proofs.rank_sets.Bits.{union_bit}
use Rattle.local_mesh.proofs.rank_sets.rank_set.RankSet.union.Goals as goal

pub returns : goal.returns
unfolding has
returns c = λ k. union_bit c.args.self.bits c.args.other.bits k
