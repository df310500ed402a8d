use Rattle.checkpoint.proofs.HeadFits.{heads_fit}
use Rattle.checkpoint.proofs.laws.heads_fit.Goals as goal

pub returns : goal.returns
returns c = heads_fit
