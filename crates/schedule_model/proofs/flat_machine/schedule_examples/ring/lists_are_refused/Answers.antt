use Rattle.std.proofs.Common.{refl}
use Rattle.std.specs.Int.{int_wrap}
use Rattle.schedule_model.proofs.flat_machine.schedule_examples.Refused.{item_refused, join_refused, send_refused, receive_refused, end_refused, colour_refused, missing_refused, twice_refused, foreign_refused}
use Rattle.schedule_model.proofs.flat_machine.schedule_examples.ring.lists_are_refused.Goals as goal

pub returns-clause-items : goal.returns-clause-items
returns-clause-items c = item_refused

pub returns-clause-joins : goal.returns-clause-joins
returns-clause-joins c = join_refused

pub returns-clause-sends : goal.returns-clause-sends
returns-clause-sends c = send_refused

pub returns-clause-receives : goal.returns-clause-receives
returns-clause-receives c = receive_refused

pub returns-clause-ends : goal.returns-clause-ends
returns-clause-ends c = end_refused

pub returns-clause-colours : goal.returns-clause-colours
returns-clause-colours c = colour_refused

pub returns-clause-missing : goal.returns-clause-missing
returns-clause-missing c = missing_refused

pub returns-clause-twice : goal.returns-clause-twice
returns-clause-twice c = twice_refused

pub returns-clause-foreign : goal.returns-clause-foreign
returns-clause-foreign c = foreign_refused

pub returns-clause-lost : goal.returns-clause-lost
unfolding int_wrap
returns-clause-lost c = refl

pub returns-clause-too_early : goal.returns-clause-too_early
unfolding int_wrap
returns-clause-too_early c = refl
