use Rattle.local_mesh.proofs.Closing.{sets_closed}
use Rattle.local_mesh.proofs.number_laws.rank_meshes_are_closed.Goals as goal

pub returns : goal.returns
returns c = λ g o p r m range perms is. sets_closed g o p r m.sets.items is.sets_count perms is.sets range.sizes range.maps (λ a x i. c.executed_targets_are_copies.ensures g o a x i r)
