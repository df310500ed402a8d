use Rattle.std.proofs.Common.{◌≡◌, ◌<◌, false, length, get_or, arith, sym, ◌∙◌}
use Rattle.std.specs.Prelude.{◌&&◌, ◌==◌}
use Rattle.step_judge.proofs.marks.Pairs.{pair_not_here}
use Rattle.step_judge.proofs.marks.items.pair_in.Goals as goal

pub loop-here-preserved : goal.loop-here-preserved
loop-here-preserved c =
    let lt : c.loop-here.here < length c.args.sends.now.of = omega arith in
    let not : ((get_or c.args.sends.now.of c.loop-here.here 0 == c.args.from) &&
    (get_or c.args.receipts.now.of c.loop-here.here 0 == c.args.to)) ≡ false =
    rw (← c.stage-first.ensures, ← c.stage-second.ensures) (sym c.is_pair.ensures ∙ c.if-is_pair.false) in
    record { within = omega arith; rest = pair_not_here _ _ _ _ _ lt c.requires not c.loop-here.invariant.rest }
