-- What proofs of other crates use of this one: laws of its definitions, and nothing of its code.

-- The standard order is sorted, and has each step of the plan.
pub use Rattle.schedule_steps.proofs.Standard.{above_each}
