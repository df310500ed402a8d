use Rattle.std.proofs.Common.{◌≡◌, ◌<◌, ℕ, length, get_or}
use Rattle.mesh_decl.specs.Mesh.{set_size}
use Rattle.mesh_decl.specs.Owners.{owners_in}
use Rattle.local_mesh.proofs.halo_lists.fit.owners_fit.Given as goal

abbrev pub invariant-loop-set : goal.invariant-loop-set
invariant-loop-set l = (s : ℕ) → s < l.set → (length (owners_in l.owners s) ≡ set_size l.mesh s) × ((x : ℕ) → x < set_size l.mesh s → get_or (owners_in l.owners s) x 0 < l.owners.ranks)
