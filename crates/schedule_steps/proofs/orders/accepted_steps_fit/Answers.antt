use Rattle.schedule_steps.proofs.UnderWay.{receives, begins, ends}
use Rattle.schedule_steps.proofs.orders.accepted_steps_fit.Goals as goal

pub returns-clause-receives : goal.returns-clause-receives
returns-clause-receives c = receives

pub returns-clause-begins : goal.returns-clause-begins
returns-clause-begins c = begins

pub returns-clause-ends : goal.returns-clause-ends
returns-clause-ends c = ends
