use Rattle.std.proofs.Common.{◌∙◌, ap}
use Rattle.rank_state.specs.Slots.{entries}
use Rattle.rank_state.proofs.rank_memory.Entries.{entries_put}
use Rattle.rank_state.proofs.rank_memory.Vecs.{lists, rows_set, in_lists}
use Rattle.rank_state.proofs.rank_memory.table.take_slot.Goals as goal

pub returns : goal.returns
returns c =
    ap entries (rows_set c.args.table.now c.args.rank c.args.element 0 c.index-table-rank.result c.requires.rank)
    ∙ entries_put (lists c.args.table.now) c.args.rank c.args.element 0 (in_lists c.args.table.now c.args.rank c.requires.rank)
