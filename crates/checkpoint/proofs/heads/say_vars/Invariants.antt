use Rattle.std.proofs.Common.{◌≡◌, ◌≤◌, ◌++◌, map, drop}
use Rattle.bound_program.specs.Values.{item_of, var_of}
use Rattle.checkpoint.specs.Cut.{says_vars}
use Rattle.checkpoint.proofs.heads.say_vars.Given as goal

abbrev pub invariant-loop-var : goal.invariant-loop-var
invariant-loop-var l = record {
  few : l.number ≤ l.var-index;
  rest : map item_of l.trace.items ++ says_vars l.number l.from (map var_of (drop l.var-index l.vars))
      ≡ map item_of l.initial.trace.items ++ says_vars 0 0 (map var_of l.vars);
}
