use Rattle.bound_plan.specs.Setups.{setup_of}
use Rattle.bound_plan.proofs.setup.setups_are_coloured.Goals as goal

pub returns : goal.returns
returns c = λ b o n meshes p pl. c.setup_is_lawful.ensures.coloured (setup_of b o meshes p) (c.setups_have_parts.ensures b o n meshes p pl).1
