use Rattle.bound_plan.proofs.Standing.{stand}
use Rattle.bound_plan.proofs.machine.elements_stand.Goals as goal

pub returns : goal.returns
returns c = λ b o n meshes p pl r lr. stand c.meshes_and_items.ensures.numbers c.meshes_and_items.ensures.halos b o n meshes p pl r lr
