use Rattle.std.proofs.Common.{◌≡◌, ◌<◌, ◌^◌, map, length, take}
use Rattle.bound_program.specs.Values.{var_of}
use Rattle.rank_layout.specs.First.{first_variables}
use Rattle.rank_program.proofs.runnable.count_cells.Given as goal

abbrev pub invariant-loop-var : goal.invariant-loop-var
invariant-loop-var l = l.count ≡ length (first_variables (map var_of (take l.var-index l.vars)))
