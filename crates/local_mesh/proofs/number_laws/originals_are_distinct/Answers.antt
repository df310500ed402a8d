use Rattle.local_mesh.proofs.Firsts.{distinct}
use Rattle.local_mesh.proofs.number_laws.originals_are_distinct.Goals as goal

pub returns : goal.returns
returns c = λ g o p r m perms is s j k l lj lk e. distinct g o p r m is s l perms j k lj lk e
