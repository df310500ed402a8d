use Rattle.std.proofs.Common.{◌≡◌, take}
use Rattle.std.specs.Prelude.{sum_by}
use Rattle.loop_plan.specs.declared.types.Pair.{Pair}
use Rattle.plan_counts.specs.Imports.{cells_by}
use Rattle.plan_counts.proofs.messages.sent_by.Given as goal

-- the sum so far
abbrev pub invariant-loop-pair : goal.invariant-loop-pair
invariant-loop-pair l =
    l.total ≡ sum_by (λ (q : Pair). cells_by l.mesh l.imports l.fn.item.exchange.items q.from q.to) (take l.pair-index l.fn.item.pairs.items)
