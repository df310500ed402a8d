use Rattle.loop_plan.proofs.OnePlan.{one_plan_text}
use Rattle.loop_plan.proofs.laws.one_plan_text.Goals as goal

pub returns : goal.returns
returns c = one_plan_text
