use Rattle.chain_model.proofs.bound_chains.given.chains_agree.Goals as goal

pub returns : goal.returns
returns c = record { agrees = c.chains_run_as_sequential.ensures.agrees; kept = c.chains_run_as_sequential.ensures.kept; hold = c.stores_hold.ensures }
