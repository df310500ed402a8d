use Rattle.std.proofs.Common.{◌≡◌, ◌<◌, ℕ, nat_eq, length, get_or}
use Rattle.local_mesh.specs.RankSet.{has_at}
use Rattle.local_mesh.proofs.halo_lists.masks.owner_sets.Given as goal

abbrev pub invariant-loop-owner : goal.invariant-loop-owner
invariant-loop-owner l = (length l.sets.items ≡ l.owner-index) × ((x r : ℕ) → x < l.owner-index → has_at l.sets.items x r ≡ nat_eq (get_or l.owners x 0) r)
