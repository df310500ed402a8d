use Rattle.plan_cert.proofs.Written.{written_are_certified}
use Rattle.plan_cert.proofs.laws.written_plans_are_certified.Goals as goal

pub returns : goal.returns
returns c = written_are_certified c.number_is_read.ensures
