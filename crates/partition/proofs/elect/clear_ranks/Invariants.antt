use Rattle.std.proofs.Common.{◌≡◌, ◌⊎◌, ℕ, length, get_or}
use Rattle.partition.proofs.Votes.{StandsFrom}
use Rattle.partition.proofs.elect.clear_ranks.Given as goal

abbrev pub invariant-loop-rank : goal.invariant-loop-rank
invariant-loop-rank l = (length l.votes ≡ length l.initial.votes)
    × ((r : ℕ) → (get_or l.votes r 0 ≡ 0) ⊎ StandsFrom l.rank-index l.list r)
