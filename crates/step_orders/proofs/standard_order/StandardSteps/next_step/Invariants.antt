use Rattle.std.proofs.Common.{◌≡◌, ◌-◌}
use Rattle.step_orders.specs.Left.{standard_left}
use Rattle.step_orders.proofs.standard_order.StandardSteps.next_step.Given as goal

abbrev pub invariant-loop-self : goal.invariant-loop-self
invariant-loop-self g l = record {
  shape : l.self.shape.now ≡ l.initial.self.shape.now;
  left : standard_left (g.S.Shape.outline l.initial.self.shape.now) (g.S.Shape.group l.initial.self.shape.now) l.initial.self.item l.initial.self.here
      ≡ standard_left (g.S.Shape.outline l.self.shape.now) (g.S.Shape.group l.self.shape.now) l.self.item l.self.here;
}

abbrev pub decreases-loop-self : goal.decreases-loop-self
decreases-loop-self g l = (g.S.Shape.outline l.self.shape.now).items - l.self.item
