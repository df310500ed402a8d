use Rattle.std.proofs.Common.{◌≡◌, ◌<◌, ℕ, length}
use Rattle.mesh_decl.specs.Mesh.{set_size}
use Rattle.local_mesh.specs.Halo.{executes}
use Rattle.local_mesh.specs.Sets.{sets_in, has_in}
use Rattle.local_mesh.proofs.halo_lists.executing_sets.Given as goal

abbrev pub invariant-loop-set : goal.invariant-loop-set
invariant-loop-set l = (length l.executing.items ≡ l.set) × ((s : ℕ) → s < l.set → length (sets_in l.executing.items s) ≡ set_size l.mesh s)
    × ((s x r : ℕ) → s < l.set → x < set_size l.mesh s → has_in l.executing.items s x r ≡ executes l.mesh l.owners s x r)
