use Rattle.schedule_steps.proofs.Standard.{accepted}
use Rattle.schedule_steps.proofs.orders.standard_is_accepted.Goals as goal

pub returns : goal.returns
returns c = accepted
