use Rattle.std.proofs.Common.{◌≡◌, ◌<◌, ◌≤◌, ℕ, true}
use Rattle.std.specs.Prelude.{vec_capacity}
use Rattle.schedule_model.specs.Layout.{message_cells}
use Rattle.rank_program.specs.Sound.{layout_in, outline_in}
use Rattle.rank_exec.specs.Room.{item_cells}
use Rattle.rank_exec.proofs.planned_run.rooms.most_cells.Given as goal

abbrev pub invariant-loop-item : goal.invariant-loop-item
invariant-loop-item l = record {
  most : (k : ℕ) → k < l.item → (outline_in l.fn.program).is_free k ≡ true
      → item_cells (outline_in l.fn.program) (message_cells (layout_in l.fn.program)) k ≤ l.most;
  room : vec_capacity l.spans ≡ vec_capacity l.fn.spans;
}
