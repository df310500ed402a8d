use Rattle.std.proofs.Common.{◌≢◌, ◌<◌, ◌≤◌, ℕ, [], get_or, slice_index}
use Rattle.kernel_runs.specs.Meeting.{pair_at}
use Rattle.kernel_runs.proofs.row_batches.meeting.rows_before_meeting.Given as goal

abbrev pub invariant-loop-pair : goal.invariant-loop-pair
invariant-loop-pair l = record {
  few : l.apart ≤ l.rows;
  apart : (i k : ℕ) → i < l.pair-index → k < l.apart
      → slice_index (get_or l.numbers (pair_at l.pairs i).0 []) k ≢ slice_index (get_or l.numbers (pair_at l.pairs i).1 []) k;
}
