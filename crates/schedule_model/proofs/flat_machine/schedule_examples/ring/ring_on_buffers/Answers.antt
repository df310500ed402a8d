use Rattle.std.proofs.Common.{refl}
use Rattle.std.specs.Int.{int_wrap}
use Rattle.schedule_model.proofs.flat_machine.schedule_examples.OnBuffers.{fits, starts}
use Rattle.schedule_model.proofs.flat_machine.schedule_examples.ring.ring_on_buffers.Goals as goal

pub returns-clause-fits : goal.returns-clause-fits
returns-clause-fits c = fits

pub returns-clause-starts : goal.returns-clause-starts
returns-clause-starts c = starts

pub returns-clause-memories : goal.returns-clause-memories
unfolding int_wrap
returns-clause-memories c = refl

pub returns-clause-variables : goal.returns-clause-variables
unfolding int_wrap
returns-clause-variables c = refl
