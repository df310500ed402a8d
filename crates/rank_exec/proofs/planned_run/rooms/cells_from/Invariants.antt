use Rattle.std.proofs.Common.{◌≡◌, take}
use Rattle.std.specs.Prelude.{sum_by, vec_capacity}
use Rattle.schedule_model.specs.Layout.{message_cells}
use Rattle.rank_program.specs.Sound.{layout_in}
use Rattle.rank_exec.proofs.planned_run.rooms.cells_from.Given as goal

abbrev pub invariant-loop-to : goal.invariant-loop-to
invariant-loop-to l = record {
  sum : l.cells ≡ sum_by (message_cells (layout_in l.fn.program) l.fn.item l.fn.from) (take l.to-index l.receivers);
  room : vec_capacity l.spans ≡ vec_capacity l.fn.spans;
}
