use Rattle.schedule_steps.proofs.ByTurns.{by_turns}
use Rattle.schedule_steps.proofs.orders.accepted_by_turns.Goals as goal

pub returns : goal.returns
returns c = by_turns
