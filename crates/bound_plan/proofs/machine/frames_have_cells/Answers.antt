use Rattle.bound_plan.specs.Windows.{frame_cells}
use Rattle.bound_plan.proofs.DatsFirst.{dats_come_first}
use Rattle.bound_plan.proofs.Onces.{once_of}
use Rattle.bound_plan.proofs.machine.frames_have_cells.Goals as goal

pub returns : goal.returns
returns c = record {
  dats = λ b args e. dats_come_first b e args;
  once = λ b site e. once_of (frame_cells b site.args e) (c.frames_are_reached.ensures b site e).once;
}
