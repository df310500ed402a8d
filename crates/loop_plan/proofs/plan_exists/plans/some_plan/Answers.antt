use Rattle.loop_plan.proofs.plan_exists.Planned.{planned}
use Rattle.loop_plan.proofs.plan_exists.plans.some_plan.Goals as goal

pub returns : goal.returns
returns c = λ b o p meshes size fits d some. planned b meshes size o p fits d some
