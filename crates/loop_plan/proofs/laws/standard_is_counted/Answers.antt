use Rattle.loop_plan.proofs.StepsCounted.{standard_length}
use Rattle.loop_plan.proofs.laws.standard_is_counted.Goals as goal

pub returns : goal.returns
returns c = standard_length
