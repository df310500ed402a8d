use Rattle.run_model.proofs.OnMemory.{elements_run_on_memory}
use Rattle.run_model.proofs.elements_run_on_memory.Goals as goal

pub returns : goal.returns
returns c = elements_run_on_memory c.elements_run_kernels.ensures c.shape_stays.ensures c.element_runs_on_arrays.ensures
