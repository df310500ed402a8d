use Rattle.run_model.proofs.gather.host_acts.Cells.{variables_hold, cells_are_held}
use Rattle.run_model.proofs.gather.host_acts.laws.variables_hold.Goals as goal

pub returns-clause-hold : goal.returns-clause-hold
returns-clause-hold c = variables_hold c.memory_holds.ensures.order

pub returns-clause-are : goal.returns-clause-are
returns-clause-are c = cells_are_held c.memory_holds.ensures.variables
