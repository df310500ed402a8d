use Rattle.local_mesh.proofs.halo_lists.Implied.{core_targets}
use Rattle.local_mesh.proofs.halo_lists.laws.core_targets_are_owned.Goals as goal

pub returns : goal.returns
returns c = core_targets
