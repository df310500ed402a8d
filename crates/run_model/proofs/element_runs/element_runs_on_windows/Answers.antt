use Rattle.run_model.proofs.element_runs.OnWindows.{on_windows}
use Rattle.run_model.proofs.element_runs.element_runs_on_windows.Goals as goal

pub returns : goal.returns
returns c = on_windows c.element_runs_agree.ensures.lists c.shape_stays.ensures
