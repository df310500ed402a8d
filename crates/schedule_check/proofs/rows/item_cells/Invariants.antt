use Rattle.std.proofs.Common.{◌≡◌, map, take}
use Rattle.loop_plan.specs.declared.types.Pair.{Pair}
use Rattle.schedule_check.specs.Mail.{cells_between}
use Rattle.schedule_check.proofs.rows.item_cells.Given as goal

abbrev pub invariant-loop-pair : goal.invariant-loop-pair
invariant-loop-pair l = l.row.items ≡ map (λ (q : Pair). cells_between l.mesh l.ranks l.fn.item.exchange.items q.from q.to) (take l.pair-index l.fn.item.pairs.items)
