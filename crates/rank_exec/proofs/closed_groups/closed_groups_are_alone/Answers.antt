use Rattle.rank_exec.proofs.closed_groups.Groups.{groups_alone}
use Rattle.rank_exec.proofs.closed_groups.closed_groups_are_alone.Goals as goal

pub returns : goal.returns
returns g c = groups_alone
