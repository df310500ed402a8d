use Rattle.std.proofs.Common.{◌≡◌, ◌≢◌, ◌<◌, ℕ, false, slice_index}
use Rattle.kernel_runs.proofs.row_batches.meeting.stands_before.Given as goal

abbrev pub invariant-loop-l : goal.invariant-loop-l
invariant-loop-l l = (k : ℕ) → l.again ≡ false → k < l.l → slice_index l.batch k ≢ slice_index l.batch l.row
