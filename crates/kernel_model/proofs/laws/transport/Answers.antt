use Rattle.kernel_model.proofs.Copies as law
use Rattle.kernel_model.proofs.laws.transport.Goals as goal

pub returns : goal.returns
returns c = law.transport
