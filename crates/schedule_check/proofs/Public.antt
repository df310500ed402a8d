-- What proofs of other crates use of this one: laws of its definitions, and nothing of its code.

-- Rows, read one by one.
pub use Rattle.schedule_check.proofs.RowReads.{plan_read}
-- The local meshes of a distributed mesh name no element twice, and the messages of a proper plan are between its ranks.
pub use Rattle.schedule_check.proofs.Distinct.{are_distinct, are_inside}
