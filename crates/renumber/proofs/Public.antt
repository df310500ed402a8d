-- What proofs of other crates use of this one: laws of its definitions, and nothing of its code.

-- One more list of kept numbers.
pub use Rattle.renumber.proofs.Kept.{kept_numbers}
-- A list of n numbers below n with each of these has each once.
pub use Rattle.renumber.proofs.Numbering.{numbering_from}
-- The reverse of an order of taking has each element once.
pub use Rattle.renumber.proofs.Reversed.{reversed_numbering}
-- Neighbours, and orders by keys that agree.
pub use Rattle.renumber.proofs.breadth_order.Near.{neighbours_within}
-- Where what comes next is one, an order is one.
pub use Rattle.renumber.proofs.breadth_order.OneOrder.{one_order, in_front}
-- A breadth-first walk takes, at each place, the next element.
pub use Rattle.renumber.proofs.breadth_order.Walk.{walk_push, earliest_is, earliest_none, earliest_at, earliest_ge, unmarked, untaken}
pub use Rattle.renumber.proofs.breadth_order.Walk.{marked_set, none_left, before, all_done, done_set, done_more}
