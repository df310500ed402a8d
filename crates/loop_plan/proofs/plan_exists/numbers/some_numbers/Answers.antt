use Rattle.loop_plan.proofs.plan_exists.Numbered.{some_numbers}
use Rattle.loop_plan.proofs.plan_exists.numbers.some_numbers.Goals as goal

pub returns : goal.returns
returns c = λ g name mesh. some_numbers c.declarations_hold.ensures.maps g name mesh
