use Rattle.std.proofs.Common.{◌≡◌}
use Rattle.std.specs.Prelude.{vec_capacity}
use Rattle.schedule_model.specs.Layout.{message_cells}
use Rattle.rank_program.specs.Sound.{layout_in, outline_in}
use Rattle.loop_plan.specs.Counted.{sum_below}
use Rattle.rank_exec.specs.Room.{cells_sent}
use Rattle.rank_exec.proofs.planned_run.rooms.cells_in_item.Given as goal

abbrev pub invariant-loop-from : goal.invariant-loop-from
invariant-loop-from l = record {
  sum : l.cells ≡ sum_below (cells_sent (outline_in l.fn.program) (message_cells (layout_in l.fn.program)) l.fn.item) l.from;
  room : vec_capacity l.spans ≡ vec_capacity l.fn.spans;
}
