use Rattle.std.proofs.Common.{◌≡◌, ◌≤◌}
use Rattle.lemmas.specs.Below.{count_below}
use Rattle.local_mesh.specs.RankSet.{has}
use Rattle.chain_needs.proofs.chain_slices.messages.count_in.Given as goal

abbrev pub invariant-loop-rank : goal.invariant-loop-rank
invariant-loop-rank l = (l.count ≤ l.rank) × (l.count ≡ count_below l.rank (has l.set))
