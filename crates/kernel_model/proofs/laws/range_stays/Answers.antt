use Rattle.kernel_model.proofs.Ranges as law
use Rattle.kernel_model.proofs.laws.range_stays.Goals as goal

pub returns : goal.returns
returns c = law.range_stays
