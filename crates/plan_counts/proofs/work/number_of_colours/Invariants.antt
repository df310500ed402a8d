use Rattle.std.proofs.Common.{◌≡◌, max, length}
use Rattle.plan_counts.specs.Counts.{number_of_colours}
use Rattle.plan_counts.proofs.work.number_of_colours.Given as goal

-- with those that are left it is the whole
abbrev pub invariant-loop-rest : goal.invariant-loop-rest
invariant-loop-rest l = max l.most (number_of_colours l.rest) ≡ number_of_colours l.colours

abbrev pub decreases-loop-rest : goal.decreases-loop-rest
decreases-loop-rest l = length l.rest
