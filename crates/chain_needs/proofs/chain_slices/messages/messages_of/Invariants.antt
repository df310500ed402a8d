use Rattle.std.proofs.Common.{◌≡◌, ◌≤◌, ◌*◌}
use Rattle.lemmas.specs.Below.{count_below}
use Rattle.local_mesh.specs.RankSet.{has_at}
use Rattle.chain_model.specs.Counts.{sum_below}
use Rattle.chain_needs.proofs.chain_slices.messages.messages_of.Given as goal

abbrev pub invariant-loop-rank : goal.invariant-loop-rank
invariant-loop-rank l = (l.count ≤ l.rank * 64) × (l.count ≡ sum_below l.rank (λ s. count_below l.owners.ranks (has_at l.to.items s)))
