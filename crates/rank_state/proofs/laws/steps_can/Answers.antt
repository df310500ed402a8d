use Rattle.rank_state.proofs.Can.{exports_total, imports_total, can_copy, can_begin, can_end, can_reduce, can_run}
use Rattle.rank_state.proofs.laws.steps_can.Goals as goal

pub returns-clause-exports : goal.returns-clause-exports
returns-clause-exports g c = exports_total

pub returns-clause-imports : goal.returns-clause-imports
returns-clause-imports g c = imports_total

pub returns-clause-copy : goal.returns-clause-copy
returns-clause-copy g c = can_copy

pub returns-clause-begin : goal.returns-clause-begin
returns-clause-begin g c = can_begin

pub returns-clause-end : goal.returns-clause-end
returns-clause-end g c = can_end

pub returns-clause-reduce : goal.returns-clause-reduce
returns-clause-reduce g c = can_reduce

pub returns-clause-element : goal.returns-clause-element
returns-clause-element g c = can_run
