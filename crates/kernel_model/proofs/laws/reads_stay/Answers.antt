use Rattle.kernel_model.proofs.ReadOnly as law
use Rattle.kernel_model.proofs.laws.reads_stay.Goals as goal

pub returns : goal.returns
returns c = law.reads_stay
