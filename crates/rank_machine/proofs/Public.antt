-- What proofs of other crates use of this one: laws of its definitions, and nothing of its code.

-- The values that kernels read of the constants.
pub use Rattle.rank_machine.proofs.Values.{count_values}
