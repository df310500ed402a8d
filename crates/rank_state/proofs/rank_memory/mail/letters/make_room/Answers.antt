use Rattle.std.proofs.Common.{sym, subst, length, arith}
use Rattle.rank_state.specs.Letters.{InOrder}
use Rattle.rank_state.proofs.rank_memory.Letters.{order_upper, unread_within}
use Rattle.rank_state.proofs.rank_memory.mail.letters.make_room.Goals as goal

pub overflow_sub-filled : goal.overflow_sub-filled
overflow_sub-filled c = omega (arith, unread_within 0 c.args.filled c.args.letters.now.items c.requires.order, c.requires.unread)

pub compact-kept-requires : goal.compact-kept-requires
compact-kept-requires c = record {
  order = subst (InOrder 0 (length c.args.cells.now)) (sym c.deref_mut.ensures.value)
      (order_upper 0 c.args.filled (length c.args.cells.now) c.args.letters.now.items c.requires.inside c.requires.order);
}
