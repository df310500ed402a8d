use Rattle.std.proofs.Common.{◌≡◌, ◌<◌, ℕ, [], length, get_or, slice_index, None}
use Rattle.kernel_runs.specs.Ways.{local_in}
use Rattle.kernel_runs.proofs.row_batches.ways.put_all_numbers.Given as goal

abbrev pub invariant-loop-w : goal.invariant-loop-w
invariant-loop-w l = (length l.numbers ≡ length l.initial.numbers)
    × ((v k : ℕ) → v < l.w → k < l.rows → slice_index (get_or l.numbers v []) k ≡ local_in (get_or l.ways v None) (slice_index l.batch k))
