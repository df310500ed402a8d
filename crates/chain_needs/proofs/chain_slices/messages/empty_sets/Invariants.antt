use Rattle.std.proofs.Common.{◌≡◌, ℕ, false, length}
use Rattle.local_mesh.specs.RankSet.{has_at}
use Rattle.chain_needs.proofs.chain_slices.messages.empty_sets.Given as goal

abbrev pub invariant-loop-rank : goal.invariant-loop-rank
invariant-loop-rank l = (length l.sets.items ≡ l._rank) × ((s r : ℕ) → has_at l.sets.items s r ≡ false)
