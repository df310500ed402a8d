use Rattle.std.proofs.Common.{◌≡◌, ◌-◌}
use Rattle.step_orders.specs.OwnLeft.{own_left}
use Rattle.step_orders.proofs.own_walks.next_own.Given as goal

abbrev pub invariant-loop-here : goal.invariant-loop-here
invariant-loop-here g l = record {
  left : own_left (g.S.Shape.outline l.shape) (g.S.Shape.group l.shape) l.rank l.initial.here
      ≡ own_left (g.S.Shape.outline l.shape) (g.S.Shape.group l.shape) l.rank l.here;
}

abbrev pub decreases-loop-here : goal.decreases-loop-here
decreases-loop-here g l = (g.S.Shape.outline l.shape).items - l.here.item
