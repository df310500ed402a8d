use Rattle.chain_model.proofs.bound_chains.Few.{few}
use Rattle.chain_model.proofs.bound_chains.slices.messages_are_few.Goals as goal

pub returns : goal.returns
returns c = few
