use Rattle.run_model.proofs.Runs.{runs_keep_range}
use Rattle.run_model.proofs.runs_keep_range.Goals as goal

pub returns : goal.returns
returns c = runs_keep_range c.loops_keep.ensures.range c.values_stay_in_range.ensures.hosts c.values_stay_in_range.ensures.first
