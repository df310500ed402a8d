use Rattle.std.proofs.Common.{◌<◌, ℕ, get_or}
use Rattle.local_mesh.proofs.halo_lists.fit.set_fits.Given as goal

abbrev pub invariant-loop-owner : goal.invariant-loop-owner
invariant-loop-owner l = (x : ℕ) → x < l.owner-index → get_or l.owners x 0 < l.ranks
