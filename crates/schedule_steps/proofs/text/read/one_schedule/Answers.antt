use Rattle.schedule_steps.proofs.text.Exact.{one-schedule}
use Rattle.schedule_steps.proofs.text.read.one_schedule.Goals as goal

pub returns : goal.returns
returns c = one-schedule
