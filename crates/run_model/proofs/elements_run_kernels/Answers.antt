use Rattle.run_model.proofs.Elements.{elements_run_kernels}
use Rattle.run_model.proofs.elements_run_kernels.Goals as goal

pub returns : goal.returns
returns c = elements_run_kernels c.shape_stays.ensures
