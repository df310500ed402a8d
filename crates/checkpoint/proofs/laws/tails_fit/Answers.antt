use Rattle.checkpoint.proofs.TailFits.{tails_fit}
use Rattle.checkpoint.proofs.laws.tails_fit.Goals as goal

pub returns : goal.returns
returns c = tails_fit
