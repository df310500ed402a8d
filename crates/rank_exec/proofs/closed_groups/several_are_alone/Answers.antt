use Rattle.rank_exec.proofs.closed_groups.Several.{several}
use Rattle.rank_exec.proofs.closed_groups.several_are_alone.Goals as goal

pub returns : goal.returns
returns g c = several
