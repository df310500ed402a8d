use Rattle.std.proofs.Common.{◌∙◌, sym, arith, ℕ}
use Rattle.schedule_steps.specs.Outline.{Outline}
use Rattle.step_orders.proofs.Whole.{join_head, item_over}
use Rattle.step_orders.proofs.standard_order.StandardSteps.next_step.Goals as goal

pub returns-then-not-is_free-clause-some : goal.returns-then-not-is_free-clause-some
returns-then-not-is_free-clause-some g c =
    let o : Outline = g.S.Shape.outline c.loop-self.self.shape.now in
    let n : ℕ = g.S.Shape.group c.loop-self.self.shape.now in
    c.loop-self.invariant.left
    ∙ join_head o n c.loop-self.self.item c.loop-self.self.here c.first_place-self.result
    (omega (arith, c.items.ensures, c.loop-self-test.true)) (sym (c.if-not-is_free.ensures)) c.first_place-self.ensures

pub loop-self-preserved : goal.loop-self-preserved
loop-self-preserved g c =
    let o : Outline = g.S.Shape.outline c.loop-self.self.shape.now in
    let n : ℕ = g.S.Shape.group c.loop-self.self.shape.now in
    record {
      shape = c.loop-self.invariant.shape;
      left = c.loop-self.invariant.left
          ∙ item_over o n c.loop-self.self.item c.loop-self.self.here c.first_place-self-in-loop-self.result
          (omega (arith, c.items.ensures, c.loop-self-test.true)) (sym (c.if-not-is_free.ensures)) c.in_default.ensures.0
          c.first_place-self-in-loop-self.ensures;
    }
