use Rattle.local_mesh.proofs.OneMesh as law
use Rattle.local_mesh.proofs.number_laws.one_rank_meshes.Goals as goal

pub returns : goal.returns
returns c = λ g o p a b range perms h k. law.one_rank_meshes g o p range perms a b h k
