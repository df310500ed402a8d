-- What proofs of other crates use of this one: laws of its definitions, and nothing of its code.

-- A run stores numbers of 32 bits alone.
pub use Rattle.kernel_model.proofs.Ranges.{operators_stay_in_range}
-- The breach that counts, of some that were found.
pub use Rattle.kernel_model.proofs.Firsts.{Counts, IsFirst, first_iff, OrIf, noted_if_first}
