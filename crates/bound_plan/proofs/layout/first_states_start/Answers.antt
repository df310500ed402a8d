use Rattle.bound_plan.proofs.FirstState.{starts}
use Rattle.bound_plan.proofs.layout.first_states_start.Goals as goal

pub returns : goal.returns
returns c = λ p l. starts p l
