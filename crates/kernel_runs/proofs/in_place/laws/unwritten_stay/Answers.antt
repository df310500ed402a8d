use Rattle.kernel_runs.proofs.in_place.Runs.{obeying_leave, unstoring_leave}
use Rattle.kernel_runs.proofs.in_place.laws.unwritten_stay.Goals as goal

pub returns : goal.returns
returns c = record { obeying = obeying_leave c.reads_stay.ensures; unstoring = unstoring_leave c.unstored_stay.ensures }
