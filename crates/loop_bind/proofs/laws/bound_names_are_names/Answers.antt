use Rattle.loop_bind.proofs.NamedMesh.{bound-names}
use Rattle.loop_bind.proofs.laws.bound_names_are_names.Goals as goal

pub returns : goal.returns
returns c = bound-names
