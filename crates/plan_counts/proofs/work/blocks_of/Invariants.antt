use Rattle.std.proofs.Common.{◌≡◌, take, length}
use Rattle.std.specs.Prelude.{sum_by}
use Rattle.colouring.specs.declared.types.Colours.{Colours}
use Rattle.plan_counts.proofs.work.blocks_of.Given as goal

-- the sum so far
abbrev pub invariant-loop-rank : goal.invariant-loop-rank
invariant-loop-rank l = l.total ≡ sum_by (λ (c : Colours). length c.blocks.items) (take l.rank-index l.colours)
