use Rattle.std.proofs.Common.{◌≡◌, ◌<◌, ℕ, true, length, get_or}
use Rattle.mesh_decl.specs.Mesh.{set_size}
use Rattle.partition.specs.Derive.{is_given, given_in}
use Rattle.partition.proofs.given.given_fits.Given as goal

abbrev pub invariant-loop-set : goal.invariant-loop-set
invariant-loop-set l = (s : ℕ) → s < l.set → is_given l.given s ≡ true → (length (given_in l.given s) ≡ set_size l.mesh s)
    × ((x : ℕ) → x < set_size l.mesh s → get_or (given_in l.given s) x 0 < l.ranks)
