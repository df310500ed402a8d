use Rattle.plan_cert.proofs.AlikePlans.{plans_are_alike}
use Rattle.plan_cert.proofs.laws.plans_are_alike.Goals as goal

pub returns : goal.returns
returns c = plans_are_alike
