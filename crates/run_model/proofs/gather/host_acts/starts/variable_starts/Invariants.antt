use Rattle.std.proofs.Common.{map}
use Rattle.bound_program.specs.Values.{var_of}
use Rattle.run_model.proofs.gather.host_acts.Begun.{Begun}
use Rattle.run_model.proofs.gather.host_acts.starts.variable_starts.Given as goal

abbrev pub invariant-loop-var : goal.invariant-loop-var
invariant-loop-var l = Begun (map var_of l.vars) l.starts.items l.next l.var-index
