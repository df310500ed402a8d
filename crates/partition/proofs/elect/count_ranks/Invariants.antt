use Rattle.std.proofs.Common.{◌≡◌, ◌<◌, ℕ, nat_eq, count_by, take, length, get_or}
use Rattle.partition.proofs.elect.count_ranks.Given as goal

abbrev pub invariant-loop-rank : goal.invariant-loop-rank
invariant-loop-rank l = (length l.votes ≡ length l.initial.votes)
    × ((r : ℕ) → r < length l.votes → get_or l.votes r 0 ≡ count_by (λ x. nat_eq x r) (take l.rank-index l.list))
