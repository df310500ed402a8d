use Rattle.loop_plan.proofs.Ranges.{in_range}
use Rattle.loop_plan.proofs.laws.bound_is_in_range.Goals as goal

pub returns : goal.returns
returns c = in_range
