use Rattle.std.proofs.Common.{◌≡◌, ◌<◌, ◌+◌, ℕ, [], length, drop, get_or}
use Rattle.rank_state.specs.Windows.{Merges}
use Rattle.kernel_runs.specs.RowLoops.{scalar_in}
use Rattle.kernel_runs.specs.Put.{AmountsFit, totals}
use Rattle.kernel_runs.proofs.row_batches.putting.merge_scalars.Given as goal

abbrev pub invariant-loop-j : goal.invariant-loop-j
invariant-loop-j l = record {
  inside : Merges (length l.partials) (drop l.j l.scalars);
  left : totals l.rows (drop l.j l.scalars) (drop (l.from + l.j) l.frame) l.partials ≡ totals l.rows l.scalars (drop l.from l.frame) l.initial.partials;
  numbers : (k : ℕ) → k < l.j → AmountsFit l.rows (scalar_in l.scalars k) (get_or l.frame (l.from + k) []);
}
