use Rattle.std.proofs.Common.{◌≡◌, ◌<◌, length, get_or, arith, true, sym, ◌∙◌}
use Rattle.op_num.specs.Cut.{blank}
use Rattle.op_num.proofs.texts.Cutting.{skipped_lf, skipped_other}
use Rattle.op_num.proofs.texts.cutter.skip_blanks.Goals as goal
use Rattle.op_num.proofs.texts.cutter.skip_blanks.Goals.{then-byte-eq10, else-byte-eq10}

pub loop-i-preserved : goal.loop-i-preserved
loop-i-preserved c =
    let lt : c.loop-i.i < length c.args.bytes.now = omega arith in
    let is : blank (get_or c.args.bytes.now c.loop-i.i 0) ≡ true = sym c.is_blank.ensures ∙ c.if-not-is_blank.false in
    elim c.if-byte-eq10.branch [
      | then-byte-eq10 w ↦ record { same = skipped_lf _ _ _ _ _ c.loop-i.invariant.same lt is w.if-byte-eq10.true w.at-is; low = omega arith }
      | else-byte-eq10 w ↦ record { same = skipped_other _ _ _ _ _ c.loop-i.invariant.same lt is w.if-byte-eq10.false w.at-is; low = omega arith }
    ]
