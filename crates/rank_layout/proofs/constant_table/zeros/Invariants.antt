use Rattle.std.proofs.Common.{◌≡◌, length, map, sum_by, take}
use Rattle.bound_program.specs.Values.{var_of}
use Rattle.bound_program.specs.Fits.{constant_cells}
use Rattle.rank_layout.proofs.constant_table.zeros.Given as goal

abbrev pub invariant-loop-var : goal.invariant-loop-var
invariant-loop-var l = length l.table.items ≡ sum_by constant_cells (map var_of (take l.var-index l.vars))
