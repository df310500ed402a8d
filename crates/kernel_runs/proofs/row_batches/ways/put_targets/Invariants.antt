use Rattle.std.proofs.Common.{◌≡◌, ◌<◌, ◌+◌, ◌*◌, ℕ, length, slice_index}
use Rattle.kernel_columns.specs.declared.columns.TheConstants.{ROWS}
use Rattle.kernel_runs.proofs.row_batches.ways.put_targets.Given as goal

abbrev pub invariant-loop-l : goal.invariant-loop-l
invariant-loop-l l = (length l.numbers ≡ ROWS)
    × ((k : ℕ) → k < l.l → slice_index l.numbers k ≡ slice_index l.via.targets.now (slice_index l.batch k * l.via.step + l.via.index))
