use Rattle.run_model.proofs.element_runs.RunsKernels.{have_kernels}
use Rattle.run_model.proofs.element_runs.setups_have_kernels.Goals as goal

pub returns : goal.returns
returns c = have_kernels c.element_runs_keep.ensures.range c.element_runs_keep.ensures.reads c.element_runs_give_effects.ensures.independent
