use Rattle.loop_plan.proofs.OneReading.{one_plan}
use Rattle.loop_plan.proofs.laws.one_plan.Goals as goal

pub returns : goal.returns
returns c = one_plan
