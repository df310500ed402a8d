use Rattle.std.proofs.Common.{◌<◌, subst, arith, length}
use Rattle.schedule_check.specs.Mail.{IsInside}
use Rattle.schedule_check.proofs.RowReads.{plan_read}
use Rattle.schedule_check.proofs.rows.all_cells.Goals as goal

pub item_cells-requires-clause-item : goal.item_cells-requires-clause-item
item_cells-requires-clause-item c =
    let l : c.loop-item.item < length c.args.items.now = omega (arith, c.loop-item-test.true, c.loop-item.auto.item-end) in
    subst (IsInside c.args.mesh.now c.args.ranks.now) (plan_read c.args.items.now c.loop-item.item c.index-items-item.result l c.index-items-item.is) (c.requires.items c.loop-item.item l)
