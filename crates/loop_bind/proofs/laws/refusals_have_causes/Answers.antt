use Rattle.loop_bind.proofs.CausedText as law
use Rattle.loop_bind.proofs.laws.refusals_have_causes.Goals as goal

pub returns : goal.returns
returns c = law.refusals_have_causes
