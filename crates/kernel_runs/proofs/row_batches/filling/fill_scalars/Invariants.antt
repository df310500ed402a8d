use Rattle.std.proofs.Common.{◌≡◌, ◌<◌, ◌+◌, ℕ, [], length, get_or, drop}
use Rattle.kernel_columns.specs.Rows.{at_row}
use Rattle.rank_state.specs.Windows.{first, Reads}
use Rattle.kernel_runs.specs.RowLoops.{scalar_in}
use Rattle.kernel_runs.proofs.row_batches.filling.fill_scalars.Given as goal

abbrev pub invariant-loop-j : goal.invariant-loop-j
invariant-loop-j l = record {
  inside : Reads (length l.variables) (drop l.j l.scalars);
  count : length l.frame ≡ length l.initial.frame;
  filled : (k m : ℕ) → k < l.j → m < l.rows → at_row m (get_or l.frame (l.from + k) []) ≡ first l.variables (scalar_in l.scalars k);
  kept : (c : ℕ) → c < l.from → get_or l.frame c [] ≡ get_or l.initial.frame c [];
}
