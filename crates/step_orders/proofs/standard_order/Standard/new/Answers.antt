use Rattle.std.proofs.Common.{◌∙◌, ℕ, ap}
use Rattle.schedule_steps.specs.Outline.{Outline}
use Rattle.schedule_steps.specs.Standard.{item_steps}
use Rattle.step_orders.specs.Left.{onward}
use Rattle.step_orders.proofs.Places.{upward_all}
use Rattle.step_orders.proofs.Whole.{all_left, upward_below}
use Rattle.step_orders.proofs.standard_order.Standard.new.Goals as goal

pub returns : goal.returns
returns g c =
    let o : Outline = g.S.Shape.outline c.args.shape.now in
    let n : ℕ = g.S.Shape.group c.args.shape.now in
    ap (λ z. onward z (item_steps o n) 0 o.items) (all_left o n 0 c.first_place.result c.first_place.ensures)
    ∙ (upward_all (item_steps o n) o.items ∙ upward_below (item_steps o n) o.items)
