use Rattle.local_mesh.specs.RankSet.{has}
use Rattle.local_mesh.proofs.rank_sets.Bits.{with_bit}
use Rattle.local_mesh.proofs.rank_sets.rank_set.RankSet.with.Goals as goal

pub returns : goal.returns
unfolding has
returns c = λ k. with_bit c.args.self.bits c.args.rank k c.requires
