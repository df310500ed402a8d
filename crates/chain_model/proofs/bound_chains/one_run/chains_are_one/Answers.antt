use Rattle.chain_model.proofs.bound_chains.OneRun.{chains_are_one}
use Rattle.chain_model.proofs.bound_chains.one_run.chains_are_one.Goals as goal

pub returns : goal.returns
returns c = chains_are_one c.one_program.ensures.programs
