use Rattle.std.proofs.Common.{ap, List}
use Rattle.local_mesh.specs.RankSet.{has_at}
use Rattle.local_mesh.specs.declared.rank_sets.rank_set.RankSet.{RankSet}
use Rattle.loop_plan.proofs.messages.receivers_at.Goals as goal

pub returns : goal.returns
unfolding has_at
returns c = λ r. ap (λ (z : List RankSet). has_at z c.args.owner r) c.receivers_in-owners.ensures
