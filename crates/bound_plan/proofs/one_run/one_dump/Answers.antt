use Rattle.bound_plan.proofs.OneRun as law
use Rattle.bound_plan.proofs.one_run.one_dump.Goals as goal

pub returns : goal.returns
returns c = law.one_dump c.kernels_are_trees.ensures.runs c.one_plan.ensures
