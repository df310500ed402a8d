use Rattle.local_mesh.specs.RankSet.{has}
use Rattle.local_mesh.proofs.rank_sets.Bits.{without_bit, without_less}
use Rattle.local_mesh.proofs.rank_sets.rank_set.RankSet.without.Goals as goal

pub returns-clause-has : goal.returns-clause-has
unfolding has
returns-clause-has c = λ k l. without_bit c.args.self.bits c.args.rank k c.requires.within l

pub returns-clause-less : goal.returns-clause-less
unfolding has
returns-clause-less c = without_less c.args.self.bits c.args.rank c.requires.within c.requires.there
