use Rattle.plan_cert.proofs.ProgramSteps.{proper_steps}
use Rattle.plan_cert.proofs.laws.proper_plans_have_steps.Goals as goal

pub returns : goal.returns
returns c b meshes p fits proper = proper_steps b meshes p (c.bound_is_in_range.ensures b fits) proper
