use Rattle.std.proofs.Common.{◌≡◌}
use Rattle.loop_plan.specs.Counted.{sum_below}
use Rattle.loop_plan.specs.Pairs.{sets_of, own_in}
use Rattle.plan_counts.proofs.work.owned_of.Given as goal

-- the sum so far
abbrev pub invariant-loop-rank : goal.invariant-loop-rank
invariant-loop-rank l = l.total ≡ sum_below (λ r. own_in (sets_of l.ranks r) l.set) l.rank
