use Rattle.std.proofs.Common.{◌≡◌, ◌<◌, ℕ, length, get_or}
use Rattle.mesh_decl.specs.Mesh.{set_size}
use Rattle.mesh_decl.specs.Owners.{owner_of}
use Rattle.local_mesh.specs.Lists.{IsLocal, originals_of}
use Rattle.local_mesh.proofs.lists.locals_at_owners.Given as goal

abbrev pub invariant-loop-rank : goal.invariant-loop-rank
invariant-loop-rank l = (length l.numbers.items ≡ set_size l.mesh l.set)
    × ((x : ℕ) → x < set_size l.mesh l.set → owner_of l.owners l.set x < l.rank
    → IsLocal (originals_of l.meshes (owner_of l.owners l.set x) l.set) x (get_or l.numbers.items x 0))
