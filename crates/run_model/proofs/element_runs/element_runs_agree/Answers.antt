use Rattle.run_model.proofs.element_runs.Lists.{any_lists, agree}
use Rattle.run_model.proofs.element_runs.element_runs_agree.Goals as goal

pub returns-clause-lists : goal.returns-clause-lists
returns-clause-lists c = any_lists c.transport.ensures

pub returns-clause-runs : goal.returns-clause-runs
returns-clause-runs c = agree c.transport.ensures
