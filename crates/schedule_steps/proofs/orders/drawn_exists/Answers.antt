use Rattle.schedule_steps.proofs.Drawn.{drawn_exists}
use Rattle.schedule_steps.proofs.orders.drawn_exists.Goals as goal

pub returns : goal.returns
returns c = drawn_exists
