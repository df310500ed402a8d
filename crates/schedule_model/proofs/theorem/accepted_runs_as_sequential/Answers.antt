use Rattle.schedule_model.proofs.Whole.{with_colours}
use Rattle.schedule_model.proofs.theorem.accepted_runs_as_sequential.Goals as goal

pub returns : goal.returns
returns g c = with_colours c.reductions_commute.ensures
