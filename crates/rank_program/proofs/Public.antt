-- What proofs of other crates use of this one: laws of its definitions, and nothing of its code.

-- A run of an element on its rank is its begin and its own end at once.
pub use Rattle.rank_program.proofs.AloneRuns.{PairsShow, unchanged, run_passes}
-- Elements that run from no fault on run alike from a kept one.
pub use Rattle.rank_program.proofs.FromNone.{of_reach, from_none, of_both}
