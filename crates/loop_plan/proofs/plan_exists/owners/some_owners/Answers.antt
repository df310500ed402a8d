use Rattle.loop_plan.proofs.plan_exists.Owned.{some_owners}
use Rattle.loop_plan.proofs.plan_exists.owners.some_owners.Goals as goal

pub returns : goal.returns
returns c = λ g ranks parts mesh some few. some_owners c.declarations_hold.ensures.maps c.declarations_hold.ensures.dats c.one_outcome.ensures.some g mesh ranks some few parts
