use Rattle.std.proofs.Common.{[], length, get_or, subst}
use Rattle.rank_state.specs.Windows.{InSlots}
use Rattle.rank_state.proofs.Public.{lists}
use Rattle.rank_machine.proofs.reduce.put_reduced.Goals as goal

pub merge_all-requires-clause-rows : goal.merge_all-requires-clause-rows
merge_all-requires-clause-rows c i lt = subst (InSlots (length (get_or (lists c.args.rows.now) i []))) c.in-Amount.is (c.requires.rows i lt)
