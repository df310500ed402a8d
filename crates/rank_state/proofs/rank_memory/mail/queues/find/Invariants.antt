use Rattle.std.proofs.Common.{◌-◌, length}
use Rattle.rank_state.proofs.rank_memory.Walking.{Place}
use Rattle.rank_state.proofs.rank_memory.mail.queues.find.Given as goal

abbrev pub invariant-loop-later : goal.invariant-loop-later
invariant-loop-later l = Place l.queues l.letters l.from l.to l.at

abbrev pub decreases-loop-later : goal.decreases-loop-later
decreases-loop-later l = length l.letters - l.at
