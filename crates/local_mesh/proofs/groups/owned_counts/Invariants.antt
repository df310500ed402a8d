use Rattle.std.proofs.Common.{◌≡◌, ◌≤◌, ℕ, length, get_or}
use Rattle.local_mesh.proofs.groups.owned_counts.Given as goal

abbrev pub invariant-loop-owner : goal.invariant-loop-owner
invariant-loop-owner l = (length l.counts.items ≡ l.ranks) × ((k : ℕ) → get_or l.counts.items k 0 ≤ l.owner-index)
