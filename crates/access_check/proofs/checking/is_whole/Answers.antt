use Rattle.std.proofs.Common.{◌∙◌, sym}
use Rattle.access_check.specs.States.{has_component}
use Rattle.access_check.proofs.Ends.{below_step, below_lacks}
use Rattle.access_check.proofs.checking.is_whole.Goals as goal

pub returns-then-not-is_among : goal.returns-then-not-is_among
returns-then-not-is_among c =
    sym (below_lacks (has_component c.args.covered.now c.args.arg) c.args.dim c.loop-i.i c.loop-i-test.true (sym c.is_among.ensures ∙ c.if-not-is_among.true))

pub loop-i-preserved : goal.loop-i-preserved
loop-i-preserved c =
    below_step (has_component c.args.covered.now c.args.arg) c.loop-i.i c.loop-i.invariant (sym c.is_among.ensures ∙ c.if-not-is_among.false)
