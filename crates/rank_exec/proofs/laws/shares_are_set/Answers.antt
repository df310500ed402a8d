use Rattle.rank_exec.proofs.AllShares.{shares_set}
use Rattle.rank_exec.proofs.laws.shares_are_set.Goals as goal

pub returns : goal.returns
returns g c = shares_set
