use Rattle.kernel_model.proofs.Law as law
use Rattle.kernel_model.proofs.laws.stored_independence.Goals as goal

pub returns : goal.returns
returns c = law.stored_independence
