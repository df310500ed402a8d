use Rattle.kernel_runs.proofs.in_place.Runs.{in_place}
use Rattle.kernel_runs.proofs.in_place.laws.runs_in_place.Goals as goal

pub returns : goal.returns
returns c = in_place c.transport.ensures c.others_stay.ensures c.shape_stays.ensures
