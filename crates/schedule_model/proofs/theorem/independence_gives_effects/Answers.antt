use Rattle.schedule_model.proofs.Runs.{gives}
use Rattle.schedule_model.proofs.theorem.independence_gives_effects.Goals as goal

pub returns : goal.returns
returns g c = gives c.reductions_commute.ensures
