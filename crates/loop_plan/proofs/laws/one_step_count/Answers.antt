use Rattle.loop_plan.proofs.OneStepCount.{one_step_count}
use Rattle.loop_plan.proofs.laws.one_step_count.Goals as goal

pub returns : goal.returns
returns c = one_step_count
