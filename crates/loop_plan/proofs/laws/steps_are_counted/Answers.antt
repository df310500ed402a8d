use Rattle.loop_plan.proofs.StepTotals.{steps_counted}
use Rattle.loop_plan.proofs.laws.steps_are_counted.Goals as goal

pub returns : goal.returns
returns c = steps_counted
