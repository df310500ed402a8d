use Rattle.step_orders.specs.Pieces.{is_alike, IsCut}
use Rattle.step_orders.proofs.pieces.run_ends.Given as goal

abbrev pub invariant-loop-at : goal.invariant-loop-at
invariant-loop-at l = IsCut (is_alike l.size l.colours) l.group l.places l.ends.items l.start l.at
