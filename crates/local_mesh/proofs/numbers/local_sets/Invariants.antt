use Rattle.std.proofs.Common.{◌≡◌, ◌<◌, ℕ, length, get_or}
use Rattle.local_mesh.specs.declared.halo_lists.types.SetHalo.{SetHalo}
use Rattle.local_mesh.specs.declared.types.Groups.{Groups}
use Rattle.local_mesh.specs.declared.types.LocalSet.{LocalSet}
use Rattle.local_mesh.specs.Parts.{IsJoinedFrom}
use Rattle.local_mesh.proofs.numbers.local_sets.Given as goal

abbrev pub invariant-loop-set : goal.invariant-loop-set
invariant-loop-set l = (length l.sets.items ≡ l.set)
    × ((s : ℕ) (t : Groups) (h : SetHalo) (d : LocalSet) → s < l.set
    → IsJoinedFrom l.rank (get_or l.groups s t) (get_or l.halos.sets.items s h) (get_or l.sets.items s d))
