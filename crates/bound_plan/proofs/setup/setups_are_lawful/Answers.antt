use Rattle.bound_plan.specs.Setups.{setup_of}
use Rattle.bound_plan.proofs.KernelsHold.{kernel_laws}
use Rattle.bound_plan.proofs.setup.setups_are_lawful.Goals as goal

pub returns : goal.returns
returns c = λ b o n meshes p r.
    let w = c.setups_have_parts.ensures b o n meshes p r.planned in
    c.setup_is_lawful.ensures.lawful (setup_of b o meshes p) (kernel_laws c.kernels_and_frames.ensures.kernels c.meshes_and_items.ensures.items b o n meshes p r) w.0 w.1
