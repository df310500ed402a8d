-- What proofs of other crates use of this one: laws of its definitions, and nothing of its code.

-- Marks are those of a plan.
pub use Rattle.step_judge.proofs.Own.{own}
-- The counts stay within their types.
pub use Rattle.step_judge.proofs.Room.{judged_well, one_fewer}
pub use Rattle.step_judge.proofs.marks.Pairs.{pair_found}
