use Rattle.local_mesh.proofs.Held.{copies_by}
use Rattle.local_mesh.proofs.number_laws.originals_are_held.Goals as goal

pub returns : goal.returns
returns c = λ g o p r m perms is s x l. copies_by g o p perms s l r m is x
