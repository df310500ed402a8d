use Rattle.schedule_model.proofs.flat_machine.Scatter.{scattered}
use Rattle.schedule_model.proofs.flat_machine.scatter_is_look_up.Goals as goal

pub returns : goal.returns
returns c = scattered
