use Rattle.std.proofs.Common.{◌≡◌, ◌<◌, ℕ, length, get_or}
use Rattle.local_mesh.specs.declared.types.LocalSet.{LocalSet}
use Rattle.local_mesh.specs.LocalMesh.{IsLocalSet}
use Rattle.local_mesh.proofs.whole.whole_sets.Given as goal

abbrev pub invariant-loop-set : goal.invariant-loop-set
invariant-loop-set l = (length l.sets.items ≡ l.set) × ((s : ℕ) (d : LocalSet) → s < l.set → IsLocalSet l.mesh l.owners l.perms s 0 (get_or l.sets.items s d))
