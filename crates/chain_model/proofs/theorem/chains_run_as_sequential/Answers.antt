use Rattle.chain_model.proofs.Whole.{agrees, kept}
use Rattle.chain_model.proofs.theorem.chains_run_as_sequential.Goals as goal

pub returns-clause-agrees : goal.returns-clause-agrees
returns-clause-agrees g c = agrees c.reductions_commute.ensures

pub returns-clause-kept : goal.returns-clause-kept
returns-clause-kept g c = kept c.reductions_commute.ensures
