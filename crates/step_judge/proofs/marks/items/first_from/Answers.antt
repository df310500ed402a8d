use Rattle.std.proofs.Common.{ℕ, ◌+◌, ◌-◌, ◌/◌, ◌<◌, sym, ◌∙◌, arith, get_or}
use Rattle.std.proofs.lemmas.Bool.{false≢true}
use Rattle.step_judge.specs.Rising.{Before}
use Rattle.step_judge.proofs.marks.Rising.{before_all, later_all}
use Rattle.step_judge.proofs.marks.items.first_from.Goals as goal

pub loop-low-preserved-then-is_before : goal.loop-low-preserved-then-is_before
loop-low-preserved-then-is_before c =
    let m : ℕ = c.loop-low.low + (c.loop-low.high - c.loop-low.low) / 2 in
    let less : m < c.loop-low.high = omega (arith, c.loop-low-test.true) in
    let h : Before (get_or c.args.sends.now.of m 0) (get_or c.args.receipts.now.of m 0) c.args.from c.args.to =
    rw (← c.stage.ensures, ← c.stage-in-loop-low.ensures) (c.is_before.ensures.0 c.if-is_before.true) in
    record {
      order = omega arith;
      within = c.loop-low.invariant.within;
      before = before_all c.args.sends.now.of c.args.receipts.now.of c.args.from c.args.to m c.requires.rising (omega (arith, c.loop-low.invariant.within)) h;
      later = c.loop-low.invariant.later;
    }

pub loop-low-preserved : goal.loop-low-preserved
loop-low-preserved c =
    let m : ℕ = c.loop-low.low + (c.loop-low.high - c.loop-low.low) / 2 in
    let less : m < c.loop-low.high = omega (arith, c.loop-low-test.true) in
    let h : Before (get_or c.args.sends.now.of m 0) (get_or c.args.receipts.now.of m 0) c.args.from c.args.to → ⊥ =
    λ b. false≢true (sym c.if-is_before.false ∙ c.is_before.ensures.1 (rw (c.stage.ensures, c.stage-in-loop-low.ensures) b)) in
    record {
      order = omega arith;
      within = omega (arith, c.loop-low.invariant.within);
      before = c.loop-low.invariant.before;
      later = later_all c.args.sends.now.of c.args.receipts.now.of c.args.from c.args.to m c.requires.rising (omega (arith, c.loop-low.invariant.within)) h;
    }
