use Rattle.std.proofs.Common.{◌≡◌, ◌<◌, ℕ, length, get_or}
use Rattle.local_mesh.specs.declared.halo_lists.types.SetHalo.{SetHalo}
use Rattle.local_mesh.specs.declared.lists.LocalLists.{LocalLists}
use Rattle.local_mesh.specs.Lists.{IsLocalLists}
use Rattle.local_mesh.proofs.lists.local_lists.Given as goal

abbrev pub invariant-loop-set : goal.invariant-loop-set
invariant-loop-set l = (length l.lists.items ≡ l.set)
    × ((s : ℕ) (e : LocalLists) → s < l.set → (d : SetHalo)
    → IsLocalLists l.mesh l.owners l.meshes s (get_or l.halos.sets.items s d) (get_or l.lists.items s e))
