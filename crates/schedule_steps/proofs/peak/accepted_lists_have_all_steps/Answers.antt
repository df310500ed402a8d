use Rattle.schedule_steps.proofs.Peaks.{as_long}
use Rattle.schedule_steps.proofs.peak.accepted_lists_have_all_steps.Goals as goal

pub returns : goal.returns
returns c = as_long
