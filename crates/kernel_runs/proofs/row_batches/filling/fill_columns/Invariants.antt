use Rattle.std.proofs.Common.{◌≡◌, ◌<◌, ℕ, [], length, get_or}
use Rattle.kernel_runs.specs.RowLoops.{column_in}
use Rattle.kernel_runs.specs.Filled.{IsFilled}
use Rattle.kernel_runs.proofs.row_batches.filling.fill_columns.Given as goal

abbrev pub invariant-loop-c : goal.invariant-loop-c
invariant-loop-c l = (length l.frame ≡ length l.initial.frame)
    × ((k : ℕ) → k < l.c → IsFilled l.numbers l.rows l.memory (column_in l.columns k) (get_or l.frame k []))
