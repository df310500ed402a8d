use Rattle.std.proofs.Common.{◌∙◌, drop, ap, sym, arith}
use Rattle.loop_bind.proofs.main_text.Lines.{rest, added, closes_two, closes_one, opens}
use Rattle.loop_bind.proofs.main_text.prints.conversions.Goals as goal
use Rattle.loop_bind.proofs.main_text.prints.conversions.Goals.{then-is_open+then-byte-eq100, then-is_open+else-byte-eq100+else-byte-ne37, else-is_open}

pub loop-byte-preserved : goal.loop-byte-preserved
loop-byte-preserved c =
    let cs = c.args.text.now in
    let k = c.loop-byte.byte-index in
    let n = c.loop-byte.count in
    let i = c.loop-byte.invariant in
    let h = c.loop-byte-test.true in
    elim c.if-is_open.branch [
      | then-is_open+then-byte-eq100 w ↦ record {
        count = rw (w.count-is, w.is_open-is) (closes_two n k cs h w.if-byte-eq100.true ∙ ap (λ o. added n (rest o (drop k cs))) (sym w.if-is_open.true) ∙ i.count);
        few = omega (arith, i.few);
      }
      | then-is_open+else-byte-eq100+else-byte-ne37 w ↦ record {
        count = rw (w.count-is, w.is_open-is) (closes_one n k cs h w.if-byte-ne37.false ∙ ap (λ o. added n (rest o (drop k cs))) (sym w.if-is_open.true) ∙ i.count);
        few = omega (arith, i.few);
      }
      | else-is_open w ↦ record {
        count = rw (w.count-is, w.is_open-is) (opens n k cs h ∙ ap (λ o. added n (rest o (drop k cs))) (sym w.if-is_open.false) ∙ i.count);
        few = omega (arith, i.few);
      }
    ]
