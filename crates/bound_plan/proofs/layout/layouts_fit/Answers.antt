use Rattle.bound_plan.proofs.Laid.{is_layout}
use Rattle.bound_plan.proofs.layout.layouts_fit.Goals as goal

pub returns : goal.returns
returns c = λ b o n meshes p r. is_layout c.meshes_and_items.ensures.numbers c.meshes_and_items.ensures.items
    c.meshes_and_items.ensures.halos c.kernels_and_frames.ensures.kernels c.kernels_and_frames.ensures.frames b o n meshes p r
