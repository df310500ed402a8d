use Rattle.chain_model.proofs.bound_chains.ByPlans.{agrees, kept, runs}
use Rattle.chain_model.specs.Slices.{slicing_of}
use Rattle.chain_model.proofs.bound_chains.Backwards.{owns_needed}
use Rattle.chain_model.proofs.bound_chains.runs.chains_run_as_sequential.Goals as goal

pub returns-clause-agrees : goal.returns-clause-agrees
returns-clause-agrees c = λ b o h. agrees c.plans_are_there.ensures c.chains_agree.ensures b o h

pub returns-clause-kept : goal.returns-clause-kept
returns-clause-kept c = λ b o h. kept c.plans_are_there.ensures c.chains_agree.ensures b o h

pub returns-clause-prints : goal.returns-clause-prints
returns-clause-prints c = λ b o h. runs c.plans_are_there.ensures c.chains_agree.ensures b o h

pub returns-clause-held : goal.returns-clause-held
returns-clause-held c = λ b o k. c.chains_agree.ensures.hold (slicing_of b o) (λ j r d y h. owns_needed b o j r d y h) k
