use Rattle.plan_cert.proofs.OneOutcome.{none_is_refused}
use Rattle.plan_cert.proofs.laws.none_is_refused.Goals as goal

pub returns : goal.returns
returns c = none_is_refused
