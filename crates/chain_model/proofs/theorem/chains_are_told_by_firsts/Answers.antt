use Rattle.chain_model.proofs.Chains.{told}
use Rattle.chain_model.proofs.theorem.chains_are_told_by_firsts.Goals as goal

pub returns : goal.returns
returns c = told
