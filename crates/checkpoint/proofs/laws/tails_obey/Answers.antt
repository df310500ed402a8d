use Rattle.checkpoint.proofs.Obeying.{tails_obey}
use Rattle.checkpoint.proofs.laws.tails_obey.Goals as goal

pub returns : goal.returns
returns c = tails_obey
