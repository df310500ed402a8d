-- What proofs of other crates use of this one: laws of its definitions, and nothing of its code.

-- Where the gathered cells stand.
pub use Rattle.kernel_runs.proofs.in_place.Standings.{at, in_first, in_rest, by_span, gathered_length, gathered_at, first_written}
pub use Rattle.kernel_runs.proofs.in_place.Standings.{rest_written, window_length, by_window, off_window, cells_length, in_window}
pub use Rattle.kernel_runs.proofs.in_place.Standings.{stands_within}
-- Arguments as they are read, and the first of several like ones.
pub use Rattle.kernel_runs.proofs.row_batches.batch_tables.Firsts.{unique}
