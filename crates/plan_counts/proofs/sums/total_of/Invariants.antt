use Rattle.std.proofs.Common.{◌≡◌, sum, take}
use Rattle.plan_counts.proofs.sums.total_of.Given as goal

-- the sum so far
abbrev pub invariant-loop-number : goal.invariant-loop-number
invariant-loop-number l = l.total ≡ sum (take l.number-index l.numbers)
