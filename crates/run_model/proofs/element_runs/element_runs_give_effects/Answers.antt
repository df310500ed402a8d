use Rattle.schedule_model.specs.ByArguments.{touch_with}
use Rattle.run_model.proofs.element_runs.element_runs_give_effects.Goals as goal

pub returns-clause-independent : goal.returns-clause-independent
returns-clause-independent c entry dim width arg n e modes cell_of k is_constant run h obeys r =
    c.arguments_give_touches.ensures entry dim width arg n e is_constant run r (c.element_runs_are_independent.ensures entry dim width arg n e modes cell_of k is_constant run h obeys)

pub returns-clause-effects : goal.returns-clause-effects
returns-clause-effects c entry dim width arg n e modes cell_of k is_constant run h obeys r =
    c.independence_gives_effects.ensures run (touch_with entry dim width arg n e is_constant)
    (c.arguments_give_touches.ensures entry dim width arg n e is_constant run r (c.element_runs_are_independent.ensures entry dim width arg n e modes cell_of k is_constant run h obeys))
