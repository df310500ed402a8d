use Rattle.local_mesh.proofs.Firsts.{owned_first}
use Rattle.local_mesh.proofs.number_laws.owned_come_first.Goals as goal

pub returns : goal.returns
returns c = λ g o p r m is s k l lk. owned_first g o p r m is s l k lk
