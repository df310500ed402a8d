use Rattle.std.proofs.Common.{◌≡◌, max, length}
use Rattle.plan_counts.specs.Counts.{block_colours_of}
use Rattle.plan_counts.proofs.work.block_colours_of.Given as goal

-- with those that are left it is the whole
abbrev pub invariant-loop-rest : goal.invariant-loop-rest
invariant-loop-rest l = max l.most (block_colours_of l.rest) ≡ block_colours_of l.colours

abbrev pub decreases-loop-rest : goal.decreases-loop-rest
decreases-loop-rest l = length l.rest
