use Rattle.std.proofs.Common.{◌-◌, arith, get_or}
use Rattle.step_judge.specs.Rising.{Before}
use Rattle.step_judge.proofs.marks.Rising.{one_more}
use Rattle.step_judge.proofs.marks.items.is_rising.Goals as goal

pub loop-here-preserved : goal.loop-here-preserved
loop-here-preserved c =
    let h : Before (get_or c.args.sends.now.of (c.loop-here.here - 1) 0) (get_or c.args.receipts.now.of (c.loop-here.here - 1) 0)
    (get_or c.args.sends.now.of c.loop-here.here 0) (get_or c.args.receipts.now.of c.loop-here.here 0) =
    rw (← c.stage-from.ensures, ← c.stage-to.ensures, ← c.stage.ensures, ← c.stage-in-loop-here.ensures) (c.is_before.ensures.0 c.if-not-is_before.false) in
    record {
      after = omega arith;
      rising = one_more c.args.sends.now.of c.args.receipts.now.of c.loop-here.here c.loop-here.invariant.after c.loop-here.invariant.rising h;
    }

pub returns : goal.returns
returns c = λ yes i j lt l. c.loop-here.invariant.rising i j lt (omega (arith, c.loop-here-test.false, c.len-here-end.ensures))
