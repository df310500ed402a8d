use Rattle.rank_exec.proofs.closed_groups.Groups.{stay_shut}
use Rattle.rank_exec.proofs.closed_groups.places_stay_shut.Goals as goal

pub returns : goal.returns
returns g c = stay_shut
