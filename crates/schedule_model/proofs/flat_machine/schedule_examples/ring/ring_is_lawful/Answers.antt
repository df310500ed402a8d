use Rattle.schedule_model.proofs.flat_machine.schedule_examples.Lawful.{lawful, coloured}
use Rattle.schedule_model.proofs.flat_machine.schedule_examples.ring.ring_is_lawful.Goals as goal

pub returns-clause-lawful : goal.returns-clause-lawful
returns-clause-lawful c = λ faulty. lawful faulty c.one_bit_is_the_history.ensures

pub returns-clause-coloured : goal.returns-clause-coloured
returns-clause-coloured c = coloured
