use Rattle.kernel_model.proofs.Reached as law
use Rattle.kernel_model.proofs.laws.shape_stays.Goals as goal

pub returns : goal.returns
returns c = law.shape_stays
