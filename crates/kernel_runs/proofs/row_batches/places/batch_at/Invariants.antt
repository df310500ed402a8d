use Rattle.std.proofs.Common.{◌≡◌, ◌<◌, ◌+◌, ℕ, length, get_or}
use Rattle.std.specs.Prelude.{slice_index}
use Rattle.kernel_runs.proofs.row_batches.places.batch_at.Given as goal

abbrev pub invariant-loop-j : goal.invariant-loop-j
invariant-loop-j l = record {
  long : length l.batch ≡ 64;
  are : (i : ℕ) → i < l.j → slice_index l.batch i ≡ get_or l.places (l.at + i) 0;
}
