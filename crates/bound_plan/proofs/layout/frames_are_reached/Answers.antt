use Rattle.bound_plan.proofs.Framed.{on_frames}
use Rattle.bound_plan.proofs.layout.frames_are_reached.Goals as goal

pub returns : goal.returns
returns c = λ b site e. on_frames b c.windows_are_reached.ensures site e
