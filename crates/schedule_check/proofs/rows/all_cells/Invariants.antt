use Rattle.std.proofs.Common.{◌≡◌, ◌<◌, ℕ, length, []}
use Rattle.std.specs.Prelude.{slice_index_or}
use Rattle.loop_plan.specs.ItemPlans.{plan_in}
use Rattle.schedule_check.specs.Mail.{row_of, rows_of}
use Rattle.schedule_check.proofs.rows.all_cells.Given as goal

abbrev pub invariant-loop-item : goal.invariant-loop-item
invariant-loop-item l = record {
  count : length l.rows.items ≡ l.item;
  rows : (k : ℕ) → k < l.item → slice_index_or (rows_of l.rows.items) k [] ≡ row_of l.mesh l.ranks (plan_in l.items k);
}
