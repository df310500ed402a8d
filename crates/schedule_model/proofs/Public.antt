-- What proofs of other crates use of this one: laws of its definitions, and nothing of its code.

-- A fold over the elements below n, of those that are marked. Where the effects commute, the order of the marks is no matter.
pub use Rattle.schedule_model.proofs.Fold.{folded_true, folded_false, folded_idle, folded_none, folded, folded_same, folded_merge}
pub use Rattle.schedule_model.proofs.Fold.{folded_union}
-- The one bit of a dat is the condition on the history.
pub use Rattle.schedule_model.proofs.History.{from_bit, by_bit}
-- What runs on two stores say of the effects of one element.
pub use Rattle.schedule_model.proofs.Runs.{Reductions}
-- The laws of a plan in the form that the run uses: each element by its fault and its effects.
pub use Rattle.schedule_model.proofs.Law.{runs, keeps, idle, apart, unreduced, merge_unit, merge_amount, good_merge, Law, fault, effect}
pub use Rattle.schedule_model.proofs.Law.{commutes, good_unit, owner_below, last}
-- The least recorded fault.
pub use Rattle.schedule_model.proofs.Least.{Each, each_push, Member, member_left, member_push, each_more, Beats, least_is, least_none}
-- What an item does in the sequential run.
pub use Rattle.schedule_model.proofs.Sequence.{store_at, good_store, is_going, output_of, store_of, GoodLoop, good_loop, FreeCase}
pub use Rattle.schedule_model.proofs.Sequence.{was_over, goes_on, ends, free_case, JoinCase, was_over_join, reduces_join, runs_join}
pub use Rattle.schedule_model.proofs.Sequence.{breaks_join, goes_join, halts_join, join_case}
-- Every value stays in range, whatever steps of the plan are taken.
pub use Rattle.schedule_model.proofs.Range.{Good}
-- What each step keeps, of a rank and the item at which it stands.
pub use Rattle.schedule_model.proofs.Facts.{is_reduce, source, source_self, source_reduce, reduce_kind, source_free}
-- What holds at every moment before a stop.
pub use Rattle.schedule_model.proofs.Inv.{Recorded}
-- Where the sequential run ends, and that the least recorded fault is its.
pub use Rattle.schedule_model.proofs.Stops.{seq_ends, going_down, ended_at}
-- An accepted list by places is one by elements.
pub use Rattle.schedule_model.proofs.flat_machine.Places.{place_runs}
-- Lists by index, and values by cell.
pub use Rattle.schedule_model.proofs.flat_machine.Rows.{map_same, updated_at, updated_length, rows_length, rows_at}
-- What the touch of a cell says of the arguments that reach it.
pub use Rattle.schedule_model.proofs.schedule_laws.Touches.{read_by, modified_by}
-- Of three faults of elements the least, and the first of equals, however they are put together.
pub use Rattle.schedule_model.proofs.LeastOfThree.{At, least_of_three}
