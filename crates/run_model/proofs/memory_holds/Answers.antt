use Rattle.run_model.proofs.Memory.{memory_is_in_order}
use Rattle.run_model.proofs.FirstMemory.{first_memory_holds}
use Rattle.run_model.proofs.Parts.{memory_ends_with_variables, memory_has_dats}
use Rattle.run_model.proofs.Assignments.{memory_takes_assignments, memory_takes_zeros}
use Rattle.run_model.proofs.memory_holds.Goals as goal

pub returns : goal.returns
returns c = record {
  order = memory_is_in_order;
  first = first_memory_holds;
  variables = memory_ends_with_variables;
  dats = memory_has_dats;
  assignments = memory_takes_assignments;
  zeros = memory_takes_zeros;
}
