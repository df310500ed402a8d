use Rattle.run_model.proofs.element_runs.Lists.{on_arrays}
use Rattle.run_model.proofs.element_runs.element_runs_on_arrays.Goals as goal

pub returns : goal.returns
returns c = on_arrays c.element_runs_agree.ensures.lists c.others_stay.ensures
