use Rattle.checkpoint.proofs.Stopping.{heads_stop}
use Rattle.checkpoint.proofs.laws.heads_stop.Goals as goal

pub returns : goal.returns
returns c = heads_stop
