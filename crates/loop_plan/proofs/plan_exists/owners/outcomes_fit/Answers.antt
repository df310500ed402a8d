use Rattle.loop_plan.proofs.plan_exists.Fitting.{owners_fit, numbers_fit}
use Rattle.loop_plan.proofs.plan_exists.owners.outcomes_fit.Goals as goal

pub returns : goal.returns
returns c = record {
  owners = λ g ranks parts o some few h. owners_fit g ranks parts o some few h;
  numbers = λ g name p h. numbers_fit g name p h;
}
