use Rattle.std.proofs.Common.{◌<◌, ◌≤◌, ℕ}
use Rattle.mesh_decl.specs.Mesh.{set_size}
use Rattle.local_mesh.proofs.largest_size.Given as goal

abbrev pub invariant-loop-set : goal.invariant-loop-set
invariant-loop-set l = (s : ℕ) → s < l.set → set_size l.mesh s ≤ l.largest
