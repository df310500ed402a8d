use Rattle.local_mesh.proofs.Firsts.{executing_first}
use Rattle.local_mesh.proofs.number_laws.executed_come_first.Goals as goal

pub returns : goal.returns
returns c = λ g o p r m is s k l lk. executing_first g o p r m is s l k lk
