use Rattle.local_mesh.proofs.halo_lists.Implied.{execute_halo}
use Rattle.local_mesh.proofs.halo_lists.laws.execute_halo_owns_a_target.Goals as goal

pub returns : goal.returns
returns c = execute_halo
