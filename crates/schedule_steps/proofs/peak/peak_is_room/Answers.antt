use Rattle.schedule_steps.proofs.Peaks.{begins_fit, sends_fit, ends_open, receives_mailed}
use Rattle.schedule_steps.proofs.peak.peak_is_room.Goals as goal

pub returns-clause-begins : goal.returns-clause-begins
returns-clause-begins c = begins_fit

pub returns-clause-sends : goal.returns-clause-sends
returns-clause-sends c = sends_fit

pub returns-clause-ends : goal.returns-clause-ends
returns-clause-ends c = ends_open

pub returns-clause-receives : goal.returns-clause-receives
returns-clause-receives c = receives_mailed
