use Rattle.std.proofs.Common.{◌≡◌, ◌<◌, ℕ, [], length, get_or}
use Rattle.mesh_decl.specs.Mesh.{set_size}
use Rattle.renumber.proofs.identity.Given as goal

abbrev pub invariant-loop-set : goal.invariant-loop-set
invariant-loop-set l = (length l.sets.items ≡ l.set)
    × ((s : ℕ) → s < l.set → length (get_or l.sets.items s []) ≡ set_size l.mesh s)
    × ((s : ℕ) → s < l.set → (x : ℕ) → x < set_size l.mesh s → get_or (get_or l.sets.items s []) x 0 ≡ x)
