use Rattle.run_model.proofs.element_runs.Independent.{independent}
use Rattle.run_model.proofs.element_runs.element_runs_are_independent.Goals as goal

pub returns : goal.returns
returns c = independent c.independence.ensures c.reads_stay.ensures c.reductions_commute.ensures
