use Rattle.loop_plan.proofs.plan_exists.Distributed.{distributed}
use Rattle.loop_plan.proofs.plan_exists.distributions.some_distribution.Goals as goal

pub returns : goal.returns
returns c = λ g o p mesh short own perms. distributed c.declarations_hold.ensures.maps c.executed_targets_are_copies.ensures g o p mesh short own perms
