use Rattle.bound_plan.proofs.ItemsHold.{item_laws}
use Rattle.bound_plan.proofs.Parts.{parts}
use Rattle.bound_plan.proofs.setup.setups_have_parts.Goals as goal

pub returns : goal.returns
returns c = λ b o n meshes p pl. (
  item_laws c.meshes_and_items.ensures.numbers c.meshes_and_items.ensures.items c.meshes_and_items.ensures.halos b o n meshes p pl,
  parts c.meshes_and_items.ensures.numbers c.meshes_and_items.ensures.items c.meshes_and_items.ensures.halos b o n meshes p pl,
)
