use Rattle.local_mesh.proofs.Firsts.{core_marked}
use Rattle.local_mesh.proofs.number_laws.core_is_marked.Goals as goal

pub returns : goal.returns
returns c = λ g o p r m is s k l lk. core_marked g o p r m is s l k lk
