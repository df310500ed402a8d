use Rattle.local_mesh.proofs.LocalTargets.{by_numbers}
use Rattle.local_mesh.proofs.number_laws.equal_targets_are_local.Goals as goal

pub returns : goal.returns
returns c = λ g o p r m range perms is a b j k i l la lb same lj li lk ll. by_numbers g o p r m range perms is a b j k i l la lb same lj li lk ll
