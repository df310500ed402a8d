use Rattle.std.proofs.Common.{◌≡◌, map, sum_by, take}
use Rattle.bound_program.specs.Values.{var_of}
use Rattle.bound_program.specs.Fits.{constant_cells}
use Rattle.deep_halo.proofs.runs.constant_count.Given as goal

abbrev pub invariant-loop-var : goal.invariant-loop-var
invariant-loop-var l = l.count ≡ sum_by constant_cells (take l.var-index (map var_of l.bound.vars.items))
