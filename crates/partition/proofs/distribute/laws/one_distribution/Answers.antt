use Rattle.mesh_decl.proofs.Public.{in_range}
use Rattle.partition.proofs.distribute.OneDistribution.{one_distribution}
use Rattle.partition.proofs.distribute.laws.one_distribution.Goals as goal

pub returns : goal.returns
returns c = λ g o u p q a b mesh perms same numbers h k. one_distribution c.one_halos.ensures c.one_rank_meshes.ensures g o u p q a b (in_range g mesh) perms same numbers h k
