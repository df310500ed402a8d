use Rattle.std.proofs.Common.{refl, false}
use Rattle.std.specs.Int.{int_wrap}
use Rattle.schedule_model.specs.Setup.{outline}
use Rattle.schedule_model.specs.Ring.{ring}
use Rattle.schedule_model.specs.Lists.{interleaved}
use Rattle.schedule_model.proofs.flat_machine.schedule_examples.ring.ring_runs.Goals as goal

pub returns-clause-order : goal.returns-clause-order
returns-clause-order c = refl

pub returns-clause-accepted : goal.returns-clause-accepted
returns-clause-accepted c = c.standard_is_accepted.ensures (outline (ring false)) 1

pub returns-clause-owned : goal.returns-clause-owned
unfolding int_wrap
returns-clause-owned c = refl

pub returns-clause-stale : goal.returns-clause-stale
unfolding int_wrap
returns-clause-stale c = refl

pub returns-clause-added : goal.returns-clause-added
unfolding int_wrap
returns-clause-added c = refl

pub returns-clause-reduced : goal.returns-clause-reduced
unfolding int_wrap
returns-clause-reduced c = refl

pub returns-clause-printed : goal.returns-clause-printed
unfolding int_wrap
returns-clause-printed c = refl

pub returns-clause-stopped : goal.returns-clause-stopped
returns-clause-stopped c = refl

pub returns-clause-overlapping : goal.returns-clause-overlapping
returns-clause-overlapping c = (c.tests_decide.ensures.accepted (outline (ring false)) interleaved).0 refl
