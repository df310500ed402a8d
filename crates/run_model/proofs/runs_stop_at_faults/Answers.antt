use Rattle.run_model.proofs.Stops.{runs_stop_at_faults}
use Rattle.run_model.proofs.runs_stop_at_faults.Goals as goal

pub returns : goal.returns
returns c = runs_stop_at_faults
