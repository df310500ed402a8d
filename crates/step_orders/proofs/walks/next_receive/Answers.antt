use Rattle.std.proofs.Common.{◌∙◌, arith}
use Rattle.schedule_steps.specs.declared.step.Step.TheVariants.{Recv}
use Rattle.schedule_steps.specs.Outline.{Outline}
use Rattle.schedule_steps.specs.Drawn.{numbers}
use Rattle.step_orders.proofs.Places.{message_head, messages_over}
use Rattle.step_orders.proofs.walks.next_receive.Goals as goal

pub returns-then-here-senders : goal.returns-then-here-senders
returns-then-here-senders g c =
    let o : Outline = g.S.Shape.outline c.args.shape.now in
    c.loop-here.invariant.left
    ∙ message_head (Recv c.args.item) (λ r. numbers (λ s. o.sends c.args.item s r) o.ranks) o.ranks c.loop-here.here.rank c.loop-here.here.at c.senders-senders.result.now
    c.senders-senders.ensures c.if-here-senders.true (omega (arith, c.ranks.ensures, c.loop-here-test.true))

pub loop-here-preserved : goal.loop-here-preserved
loop-here-preserved g c =
    let o : Outline = g.S.Shape.outline c.args.shape.now in
    record {
      left = c.loop-here.invariant.left
          ∙ messages_over (Recv c.args.item) (λ r. numbers (λ s. o.sends c.args.item s r) o.ranks) o.ranks c.loop-here.here.rank c.loop-here.here.at c.senders-senders.result.now
          c.senders-senders.ensures c.if-here-senders.false (omega (arith, c.ranks.ensures, c.loop-here-test.true));
    }
