use Rattle.local_mesh.specs.Halos.{IsHaloBelow}
use Rattle.local_mesh.proofs.halo_lists.split.set_halo.Given as goal

abbrev pub invariant-loop-element : goal.invariant-loop-element
invariant-loop-element l = IsHaloBelow l.mesh l.owners l.set l.element l.halo
