use Rattle.std.proofs.Common.{◌≡◌, ◌<◌, ℕ, length, get_or}
use Rattle.local_mesh.specs.declared.types.Groups.{Groups}
use Rattle.local_mesh.specs.Parts.{AreGroups}
use Rattle.local_mesh.proofs.all_groups.Given as goal

abbrev pub invariant-loop-set : goal.invariant-loop-set
invariant-loop-set l = (length l.groups.items ≡ l.set) × ((s : ℕ) (d : Groups) → s < l.set → AreGroups l.mesh l.owners l.perms s (get_or l.groups.items s d))
