use Rattle.std.proofs.Common.{◌<◌, ◌∙◌, sym, arith, length}
use Rattle.schedule_check.proofs.RowReads.{row_read, one_row_more}
use Rattle.schedule_check.proofs.rows.largest.Goals as goal

pub loop-row-preserved : goal.loop-row-preserved
loop-row-preserved c =
    let l : c.loop-row.row-index < length c.args.rows.now = omega (arith, c.loop-row-test.true, c.loop-row.auto.row-index-end) in
    one_row_more c.args.rows.now c.loop-row.row-index c.largest_in.result c.loop-row.largest c.max-largest.result c.deref.result.now
    (row_read c.args.rows.now c.loop-row.row-index c.row-item.result l c.row-item.is ∙ sym c.deref.ensures.value)
    c.largest_in.ensures (omega (arith, c.max-largest.ensures)) (omega (arith, c.max-largest.ensures)) c.loop-row.invariant
