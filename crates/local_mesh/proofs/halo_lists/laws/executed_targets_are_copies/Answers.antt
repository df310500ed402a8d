use Rattle.local_mesh.proofs.halo_lists.Implied.{target_copied}
use Rattle.local_mesh.proofs.halo_lists.laws.executed_targets_are_copies.Goals as goal

pub returns : goal.returns
returns c = target_copied
