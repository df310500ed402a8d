use Rattle.std.proofs.Common.{rules}
use Rattle.local_mesh.specs.RankSet.{has}
use Rattle.local_mesh.proofs.rank_sets.Bits.{minus_bit}
use Rattle.local_mesh.proofs.rank_sets.rank_set.RankSet.minus.Goals as goal

pub returns : goal.returns
unfolding has
returns c = λ k l. minus_bit c.args.self.bits c.args.other.bits k (search rules) l
