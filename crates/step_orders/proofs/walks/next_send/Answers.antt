use Rattle.std.proofs.Common.{◌∙◌, arith}
use Rattle.schedule_steps.specs.declared.step.Step.TheVariants.{Send}
use Rattle.schedule_steps.specs.Outline.{Outline}
use Rattle.schedule_steps.specs.Drawn.{numbers}
use Rattle.step_orders.proofs.Places.{message_head, messages_over}
use Rattle.step_orders.proofs.walks.next_send.Goals as goal

pub returns-then-here-receivers : goal.returns-then-here-receivers
returns-then-here-receivers g c =
    let o : Outline = g.S.Shape.outline c.args.shape.now in
    c.loop-here.invariant.left
    ∙ message_head (Send c.args.item) (λ s. numbers (o.sends c.args.item s) o.ranks) o.ranks c.loop-here.here.rank c.loop-here.here.at c.receivers-receivers.result.now
    c.receivers-receivers.ensures c.if-here-receivers.true (omega (arith, c.ranks.ensures, c.loop-here-test.true))

pub loop-here-preserved : goal.loop-here-preserved
loop-here-preserved g c =
    let o : Outline = g.S.Shape.outline c.args.shape.now in
    record {
      left = c.loop-here.invariant.left
          ∙ messages_over (Send c.args.item) (λ s. numbers (o.sends c.args.item s) o.ranks) o.ranks c.loop-here.here.rank c.loop-here.here.at c.receivers-receivers.result.now
          c.receivers-receivers.ensures c.if-here-receivers.false (omega (arith, c.ranks.ensures, c.loop-here-test.true));
    }
