use Rattle.kernel_model.proofs.Ranges as law
use Rattle.kernel_model.proofs.laws.operators_stay_in_range.Goals as goal

pub returns : goal.returns
returns c = law.operators_stay_in_range
