use Rattle.std.proofs.Common.{◌∙◌, ℕ}
use Rattle.schedule_steps.specs.Outline.{Outline}
use Rattle.schedule_steps.specs.Drawn.{own_item}
use Rattle.step_orders.proofs.Places.{upward_all}
use Rattle.step_orders.proofs.Whole.{upward_below}
use Rattle.step_orders.proofs.RankSteps.{own_at}
use Rattle.step_orders.proofs.own_steps.OwnSteps.new.Goals as goal

pub returns : goal.returns
returns g c =
    let o : Outline = g.S.Shape.outline c.args.shape.now in
    let n : ℕ = g.S.Shape.group c.args.shape.now in
    let r : ℕ = c.args.rank in
    own_at o n r 0 c.first_in.result c.first_in.ensures
    ∙ (upward_all (own_item o n r) o.items ∙ upward_below (own_item o n r) o.items)
