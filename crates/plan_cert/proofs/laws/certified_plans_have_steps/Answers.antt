use Rattle.plan_cert.proofs.ProgramSteps.{certified_steps}
use Rattle.plan_cert.proofs.laws.certified_plans_have_steps.Goals as goal

pub returns : goal.returns
returns c = certified_steps c.bound_is_in_range.ensures
