use Rattle.std.proofs.Common.{◌∙◌}
use Rattle.plan_counts.proofs.Lines.{pad_step}
use Rattle.plan_counts.proofs.fields.put_padded.Goals as goal

pub loop-width-preserved : goal.loop-width-preserved
loop-width-preserved c =
    rw c.in_ok-push-2.ensures.items
    (pad_step c.loop-width.width c.loop-width.out.items c.args.field.now c.loop-width-test.true ∙ c.loop-width.invariant)
