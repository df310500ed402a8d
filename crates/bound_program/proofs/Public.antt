-- What proofs of other crates use of this one: laws of its definitions, and nothing of its code.

-- The first of what is wrong with a statement: it is there, nothing counts before it, and it is the only such one.
pub use Rattle.bound_program.proofs.refusals.First.{answers}
-- The first of what was found in two lists, one behind the other.
pub use Rattle.bound_program.proofs.refusals.Firsts.{least_append, least_three, least_four, first_of_three, first_of_four}
