use Rattle.kernel_model.proofs.Found as law
use Rattle.kernel_model.proofs.laws.walk_finds.Goals as goal

pub returns : goal.returns
returns c = law.walk_finds
