use Rattle.local_mesh.proofs.halo_lists.Implied.{imported_of_others}
use Rattle.local_mesh.proofs.halo_lists.laws.imports_are_of_others.Goals as goal

pub returns : goal.returns
returns c = imported_of_others
