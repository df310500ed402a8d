use Rattle.local_mesh.specs.RankSet.{has}
use Rattle.local_mesh.proofs.rank_sets.rank_set.RankSet.empty.Goals as goal
use Rattle.lemmas.proofs.Numbers.{zero_bit}

pub returns : goal.returns
unfolding has
returns c = λ k. zero_bit k
