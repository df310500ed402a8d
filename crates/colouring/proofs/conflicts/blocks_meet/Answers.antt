use Rattle.std.proofs.Common.{◌<◌, length, get_or, arith}
use Rattle.colouring.proofs.Blocks.{steps_fit}
use Rattle.colouring.proofs.Alike.{blocks_alike, blocks_some, few_blocks, decided, order_read, order_sorted, order_all}
use Rattle.colouring.proofs.conflicts.blocks_meet.Goals as goal

pub rows_meet-requires-clause-rows : goal.rows_meet-requires-clause-rows
rows_meet-requires-clause-rows c =
    order_read c.order_rows.new.order.items c.deref.result.now 0 (length c.args.colours.now) c.deref.ensures.value
    (λ a l. (let r = c.in_ok-order_rows.ensures.rows a l in
    (r.0, (c.requires.count (get_or c.order_rows.new.order.items a 0)).1 ((c.count.ensures (get_or c.order_rows.new.order.items a 0)).0 r.1))))

pub rows_meet-requires-clause-sorted : goal.rows_meet-requires-clause-sorted
rows_meet-requires-clause-sorted c = order_sorted c.order_rows.new.order.items c.deref.result.now c.args.colours.now c.deref.ensures.value c.in_ok-order_rows.ensures.sorted

pub rows_meet-requires-clause-few : goal.rows_meet-requires-clause-few
rows_meet-requires-clause-few c =
    let f = few_blocks (length c.args.colours.now) c.args.size c.args.places c.requires.size c.requires.count in
    let p : c.args.places < 4294967296 = c.ranges.places.fits in
    omega arith

pub rows_meet-requires-clause-small : goal.rows_meet-requires-clause-small
rows_meet-requires-clause-small c =
    steps_fit (length c.args.colours.now) c.args.size c.args.places c.args.width c.min.result c.min.ensures (λ b l. (c.requires.count b).0 l) (omega (arith, c.requires.table, c.requires.few))

pub returns : goal.returns
returns c =
    let cs = c.args.colours.now in
    let order = c.deref.result.now in
    let rows = order_read c.order_rows.new.order.items order 0 c.count.result c.deref.ensures.value c.in_ok-order_rows.ensures.rows in
    let all = order_all c.order_rows.new.order.items order 0 c.count.result c.deref.ensures.value c.in_ok-order_rows.ensures.all in
    decided c.rows_meet.result _ _ c.rows_meet.ensures.found c.rows_meet.ensures.clear
    (blocks_alike c.args.table.now c.args.width c.args.size c.args.places c.min.result c.min.ensures c.requires.table cs order c.requires.count
    (λ a l. (c.requires.count (get_or order a 0)).1 ((c.count.ensures (get_or order a 0)).0 (rows a l).1)))
    (blocks_some c.args.table.now c.args.width c.args.size c.args.places c.min.result c.min.ensures c.requires.table cs order c.requires.count
    (λ row l. all row (omega arith) ((c.count.ensures row).1 ((c.requires.count row).0 l))))
