use Rattle.std.proofs.Common.{◌≡◌, ◌<◌, ℕ, false, slice_index}
use Rattle.kernel_runs.proofs.row_batches.meeting.increase.Given as goal

abbrev pub invariant-loop-l : goal.invariant-loop-l
invariant-loop-l l = (i k : ℕ) → l.falls ≡ false → i < k → k < l.l → slice_index l.batch i < slice_index l.batch k
