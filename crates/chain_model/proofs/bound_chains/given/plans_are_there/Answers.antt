use Rattle.chain_model.proofs.bound_chains.given.plans_are_there.Goals as goal

pub returns : goal.returns
returns c = record {
  numbers = c.some_numbers.ensures;
  outcomes = c.outcomes_fit.ensures;
  distributions = c.some_distribution.ensures;
  plans = c.some_plan.ensures;
  lawful = c.setups_are_lawful.ensures;
}
