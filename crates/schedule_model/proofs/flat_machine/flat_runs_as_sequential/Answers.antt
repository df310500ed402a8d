use Rattle.schedule_model.proofs.flat_machine.Whole.{on_buffers}
use Rattle.schedule_model.proofs.flat_machine.flat_runs_as_sequential.Goals as goal

pub returns : goal.returns
returns g c = on_buffers c.accepted_runs_as_sequential.ensures
