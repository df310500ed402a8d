use Rattle.std.proofs.Common.{◌≤◌, ◌<◌, ℕ, []}
use Rattle.std.specs.Prelude.{slice_index, slice_index_or}
use Rattle.schedule_check.specs.Mail.{rows_of}
use Rattle.schedule_check.proofs.rows.largest.Given as goal

abbrev pub invariant-loop-row : goal.invariant-loop-row
invariant-loop-row l = (k i : ℕ) → k < l.row-index → slice_index (slice_index_or (rows_of l.rows) k []) i ≤ l.largest
