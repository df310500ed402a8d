use Rattle.loop_bind.proofs.LeavesProgram.{bound-programs-leave}
use Rattle.loop_bind.proofs.laws.bound_programs_leave_constants.Goals as goal

pub returns : goal.returns
returns c = bound-programs-leave
