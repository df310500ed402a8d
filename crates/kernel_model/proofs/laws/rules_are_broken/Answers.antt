use Rattle.kernel_model.proofs.Refused as law
use Rattle.kernel_model.proofs.laws.rules_are_broken.Goals as goal

pub returns : goal.returns
returns c = record { obeys = law.obeys_unless_broken; first = law.one_refusal }
