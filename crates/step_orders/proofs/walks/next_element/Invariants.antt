use Rattle.std.proofs.Common.{◌≡◌, ◌-◌}
use Rattle.step_orders.specs.Left.{elements_left}
use Rattle.step_orders.proofs.walks.next_element.Given as goal

abbrev pub invariant-loop-here : goal.invariant-loop-here
invariant-loop-here g l = record {
  left : elements_left (g.S.Shape.outline l.shape) (g.S.Shape.group l.shape) l.item l.initial.here ≡ elements_left (g.S.Shape.outline l.shape) (g.S.Shape.group l.shape) l.item l.here;
}

abbrev pub decreases-loop-here : goal.decreases-loop-here
decreases-loop-here g l = (g.S.Shape.outline l.shape).ranks - l.here.rank
