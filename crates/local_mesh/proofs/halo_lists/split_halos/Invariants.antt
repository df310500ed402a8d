use Rattle.std.proofs.Common.{◌≡◌, ◌<◌, ℕ, length, get_or}
use Rattle.local_mesh.specs.declared.halo_lists.types.SetHalo.{SetHalo}
use Rattle.local_mesh.specs.Halos.{IsSetHalo}
use Rattle.local_mesh.proofs.halo_lists.split_halos.Given as goal

abbrev pub invariant-loop-set : goal.invariant-loop-set
invariant-loop-set l = (length l.sets.items ≡ l.set) × ((s : ℕ) (d : SetHalo) → s < l.set → IsSetHalo l.mesh l.owners s (get_or l.sets.items s d))
