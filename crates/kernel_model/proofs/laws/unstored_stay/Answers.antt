use Rattle.kernel_model.proofs.StoredThrough as law
use Rattle.kernel_model.proofs.laws.unstored_stay.Goals as goal

pub returns : goal.returns
returns c = law.unstored_stay
