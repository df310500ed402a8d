use Rattle.schedule_steps.proofs.Drawn.{drawn_accepted}
use Rattle.schedule_steps.proofs.orders.drawn_is_accepted.Goals as goal

pub returns : goal.returns
returns c = drawn_accepted
