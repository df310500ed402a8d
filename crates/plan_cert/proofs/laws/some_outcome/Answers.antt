use Rattle.plan_cert.proofs.SomeOutcome.{some_outcome}
use Rattle.plan_cert.proofs.laws.some_outcome.Goals as goal

pub returns : goal.returns
returns c = some_outcome c.bound_is_in_range.ensures c.some_plan.ensures
