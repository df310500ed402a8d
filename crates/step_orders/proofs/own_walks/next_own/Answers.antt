use Rattle.std.proofs.Common.{◌<◌, ◌∙◌, ℕ, sym, arith}
use Rattle.schedule_steps.specs.Outline.{Outline}
use Rattle.step_orders.proofs.RankSteps.{own_joined, own_over}
use Rattle.step_orders.proofs.own_walks.next_own.Goals as goal
use Rattle.step_orders.proofs.own_walks.next_own.Goals.{then-is_free+in_default, else-is_free}

pub loop-here-preserved : goal.loop-here-preserved
loop-here-preserved g c =
    let o : Outline = g.S.Shape.outline c.args.shape.now in
    let n : ℕ = g.S.Shape.group c.args.shape.now in
    let lt : c.loop-here.here.item < o.items = omega (arith, c.items.ensures, c.loop-here-test.true) in
    record {
      left = c.loop-here.invariant.left
          ∙ elim c.if-is_free.branch [
            | then-is_free+in_default w ↦ own_over o n c.args.rank c.loop-here.here c.first_in.result lt (sym w.if-is_free.ensures) w.in_default.ensures.first.0 c.first_in.ensures
            | else-is_free w ↦ own_joined o n c.args.rank c.loop-here.here c.first_in.result lt (sym w.if-is_free.ensures) c.first_in.ensures
          ];
    }
