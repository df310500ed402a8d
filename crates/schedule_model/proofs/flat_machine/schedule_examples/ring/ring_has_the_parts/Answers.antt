use Rattle.schedule_model.proofs.flat_machine.schedule_examples.Lawful.{kernels, items}
use Rattle.schedule_model.proofs.flat_machine.schedule_examples.Parts.{loops}
use Rattle.schedule_model.proofs.flat_machine.schedule_examples.ring.ring_has_the_parts.Goals as goal

pub returns-clause-kernels : goal.returns-clause-kernels
returns-clause-kernels c = kernels

pub returns-clause-items : goal.returns-clause-items
returns-clause-items c = λ faulty. items faulty c.one_bit_is_the_history.ensures

pub returns-clause-loops : goal.returns-clause-loops
returns-clause-loops c = loops
