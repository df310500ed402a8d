use Rattle.std.proofs.Common.{◌<◌, ◌++◌, ℕ, List, sym, ap, arith}
use Rattle.schedule_steps.specs.Outline.{Outline}
use Rattle.schedule_steps.specs.Standard.{item_steps}
use Rattle.schedule_steps.specs.declared.step.Step.{Step}
use Rattle.step_orders.specs.Left.{begins, ends, item_left, standard_left}
use Rattle.step_orders.proofs.AloneRuns.{on_more, item_more}
use Rattle.step_orders.proofs.standard_order.StandardSteps.next_closed.Goals as goal

pub returns-in_default-clause-none : goal.returns-in_default-clause-none
returns-in_default-clause-none g c =
    ap (λ p. standard_left (g.S.Shape.outline c.args.self.now.shape.now) (g.S.Shape.group c.args.self.now.shape.now) c.args.self.now.item p) c.in_default.ensures.none

pub returns-clause-some : goal.returns-clause-some
returns-clause-some g c =
    let o : Outline = g.S.Shape.outline c.args.self.now.shape.now in
    let n : ℕ = g.S.Shape.group c.args.self.now.shape.now in
    let k : ℕ = c.args.self.now.item in
    let r : ℕ = c.in-Some.rank in
    let some : List Step = begins k r c.closed_in_item.new.places.items ++ ends k r c.closed_in_item.new.places.items in
    let lt : k < o.items = omega (arith, c.if-item-items.false, c.items.ensures) in
    on_more (item_left o n k c.args.self.now.here) (item_left o n k c.closed_in_item.new.here) some (item_steps o n) k o.items lt
    (item_more o n k c.args.self.now.here c.closed_in_item.new.here some (sym c.if-not-is_free.ensures) c.in-Some.ensures.some)
