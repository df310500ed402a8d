use Rattle.schedule_model.proofs.Kept.{one_is_enough, of_machine}
use Rattle.schedule_model.proofs.theorem.one_fault_is_enough.Goals as goal

pub returns-clause-kept : goal.returns-clause-kept
returns-clause-kept g c = one_is_enough

pub returns-clause-elements : goal.returns-clause-elements
returns-clause-elements g c = of_machine
