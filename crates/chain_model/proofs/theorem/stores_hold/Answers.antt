use Rattle.chain_model.proofs.Holding.{hold}
use Rattle.chain_model.proofs.theorem.stores_hold.Goals as goal

pub returns : goal.returns
returns g c = hold
