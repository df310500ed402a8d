use Rattle.loop_plan.proofs.Exporting.{messages}
use Rattle.loop_plan.proofs.laws.imports_are_exports.Goals as goal

pub returns : goal.returns
returns c = λ g o p meshes a h s r t ls lr lt. messages g o p meshes a h s r t ls lr lt
