use Rattle.std.proofs.Common.{◌≡◌, max, length}
use Rattle.plan_counts.specs.Counts.{largest}
use Rattle.plan_counts.proofs.work.largest.Given as goal

-- with those that are left it is the whole
abbrev pub invariant-loop-rest : goal.invariant-loop-rest
invariant-loop-rest l = max l.most (largest l.rest) ≡ largest l.numbers

abbrev pub decreases-loop-rest : goal.decreases-loop-rest
decreases-loop-rest l = length l.rest
