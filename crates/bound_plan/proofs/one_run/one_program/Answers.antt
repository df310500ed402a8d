use Rattle.bound_plan.proofs.SameKernels.{same_at, programs_same}
use Rattle.bound_plan.proofs.one_run.one_program.Goals as goal

pub returns-clause-kernels : goal.returns-clause-kernels
returns-clause-kernels c = same_at

pub returns-clause-programs : goal.returns-clause-programs
returns-clause-programs c = programs_same c.kernels_are_trees.ensures.runs
