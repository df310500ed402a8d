use Rattle.loop_plan.proofs.plan_exists.Memory.{fits_memory}
use Rattle.loop_plan.proofs.plan_exists.distributions.narrow_meshes_fit_memory.Goals as goal

pub returns : goal.returns
returns c = λ g mesh narrow. fits_memory c.declarations_hold.ensures.maps g mesh narrow
