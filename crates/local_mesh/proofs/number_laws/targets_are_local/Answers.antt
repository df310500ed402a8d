use Rattle.local_mesh.proofs.LocalTargets.{by_number}
use Rattle.local_mesh.proofs.number_laws.targets_are_local.Goals as goal

pub returns : goal.returns
returns c = λ g o p r m range perms is a k i l la lk li ll. by_number g o p r m range perms is a k i l la lk li ll
