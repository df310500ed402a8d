use Rattle.std.proofs.Common.{◌≢◌, ◌<◌, ℕ, slice_index}
use Rattle.kernel_runs.proofs.row_batches.meeting.rows_before_double.Given as goal

abbrev pub invariant-loop-row : goal.invariant-loop-row
invariant-loop-row l = (i k : ℕ) → i < k → k < l.row → slice_index l.batch i ≢ slice_index l.batch k
