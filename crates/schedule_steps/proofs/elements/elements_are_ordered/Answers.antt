use Rattle.schedule_steps.proofs.FirstElements.{on, lower, others}
use Rattle.schedule_steps.proofs.elements.elements_are_ordered.Goals as goal

pub returns-clause-on : goal.returns-clause-on
returns-clause-on c = on

pub returns-clause-lower : goal.returns-clause-lower
returns-clause-lower c = lower

pub returns-clause-others : goal.returns-clause-others
returns-clause-others c = others
