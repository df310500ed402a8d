use Rattle.local_mesh.proofs.halo_lists.OneHalo as law
use Rattle.local_mesh.proofs.halo_lists.laws.one_halos.Goals as goal

pub returns : goal.returns
returns c = law.one_halos
