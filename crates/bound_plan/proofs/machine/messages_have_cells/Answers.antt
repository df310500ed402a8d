use Rattle.bound_plan.proofs.Messages.{messages}
use Rattle.bound_plan.proofs.machine.messages_have_cells.Goals as goal

pub returns : goal.returns
returns c = λ b o n meshes p pl. messages c.meshes_and_items.ensures.halos b o n meshes p pl
