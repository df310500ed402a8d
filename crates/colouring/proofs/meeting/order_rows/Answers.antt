use Rattle.std.proofs.Common.{ℕ, rules, get_or}
use Rattle.std.proofs.lemmas.List.Sorted.{IsNonDecreasingBy-from_sort_by_key}
use Rattle.colouring.proofs.Marking.{row_there, rows_are}
use Rattle.colouring.proofs.meeting.order_rows.Goals as goal

pub returns-clause-rows : goal.returns-clause-rows
returns-clause-rows c =
    rows_are _ _ c.args.first c.args.last c.loop-row.row c.loop-row.invariant.count (c.loop-row.auto.row-end c.requires) c.loop-row.invariant.rows c.sort_unstable_by_key.ensures.permutation

pub returns-clause-all : goal.returns-clause-all
returns-clause-all c = λ row.
    row_there _ _ c.args.first c.args.last c.loop-row.row row c.loop-row.invariant.count c.loop-row-test.false c.loop-row.invariant.rows c.sort_unstable_by_key.ensures.permutation

pub returns-clause-sorted : goal.returns-clause-sorted
returns-clause-sorted c = λ a e le lt.
    IsNonDecreasingBy-from_sort_by_key (λ (x : ℕ). get_or c.args.colours.now x 0) _ c.sort_unstable_by_key.ensures.sorted (λ a r q k. search rules) a e 0 le lt
