use Rattle.std.proofs.Common.{◌≡◌, pos, get_or, set}
use Rattle.rank_state.specs.Windows.{operation}
use Rattle.rank_state.specs.Joins.{merge_rows}
use Rattle.rank_state.proofs.Public.{lists}
use Rattle.rank_machine.proofs.reduce.merge_all.Given as goal

abbrev pub invariant-loop-row : goal.invariant-loop-row
invariant-loop-row l = l.variables ≡ set l.fn.variables l.at (merge_rows (operation l.how) l.slot (lists l.rows) l.row-index (get_or l.fn.variables l.at (pos 0)))
