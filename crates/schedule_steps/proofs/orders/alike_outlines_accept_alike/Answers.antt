use Rattle.schedule_steps.proofs.Alike.{accepts_alike}
use Rattle.schedule_steps.proofs.orders.alike_outlines_accept_alike.Goals as goal

pub returns : goal.returns
returns c = accepts_alike
