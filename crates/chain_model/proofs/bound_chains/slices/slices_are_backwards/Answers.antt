use Rattle.chain_model.proofs.bound_chains.Backwards.{backwards}
use Rattle.chain_model.proofs.bound_chains.slices.slices_are_backwards.Goals as goal

pub returns : goal.returns
returns c = backwards
