use Rattle.checkpoint.proofs.Obeying.{heads_obey}
use Rattle.checkpoint.proofs.laws.heads_obey.Goals as goal

pub returns : goal.returns
returns c = heads_obey
