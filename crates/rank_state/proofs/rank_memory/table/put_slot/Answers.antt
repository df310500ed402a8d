use Rattle.std.proofs.Common.{◌+◌, ◌∙◌, ap, add-one}
use Rattle.rank_state.specs.Slots.{slot_of, entries, with_entry}
use Rattle.rank_state.proofs.rank_memory.Entries.{entries_put}
use Rattle.rank_state.proofs.rank_memory.Vecs.{lists, rows_set, in_lists}
use Rattle.rank_state.proofs.rank_memory.table.put_slot.Goals as goal

pub returns : goal.returns
returns c =
    ap entries (rows_set c.args.table.now c.args.rank c.args.element (c.args.slot + 1) c.index-table-rank.result c.requires.rank)
    ∙ entries_put (lists c.args.table.now) c.args.rank c.args.element (c.args.slot + 1) (in_lists c.args.table.now c.args.rank c.requires.rank)
    ∙ ap (λ n. with_entry c.args.rank c.args.element (slot_of n) (entries (lists c.args.table.now))) (add-one c.args.slot)
