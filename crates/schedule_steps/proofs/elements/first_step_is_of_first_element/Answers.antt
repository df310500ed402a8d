use Rattle.schedule_steps.proofs.FirstElements.{some, none}
use Rattle.schedule_steps.proofs.elements.first_step_is_of_first_element.Goals as goal

pub returns-clause-some : goal.returns-clause-some
returns-clause-some c o f k r x h = some o k r f x h

pub returns-clause-none : goal.returns-clause-none
returns-clause-none c o f k r h = none o k r f h
