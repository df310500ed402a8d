-- Where the cells of variables stand in the list of all, and how loops merge amounts into them.
use Rattle.std.specs.Prelude.{ℕ, zero, suc, ◌+◌, cond, nat_eq, nat_lt, List, [], ◌∷◌, slice_index_or, Option, Some, None}
use Rattle.op_num.specs.Reduction.{Reduction, Add, Min, Max}
use Rattle.op_num.specs.declared.reductions.access.Access.{Access}
use Rattle.op_num.specs.declared.reductions.access.Access.TheVariants as access
use Rattle.schedule_model.specs.Cells.{VarCell}
use Rattle.bound_program.specs.declared.sites.Arg.{Arg}
use Rattle.bound_program.specs.declared.sites.Arg.TheVariants.{Dat, Global}
use Rattle.bound_program.specs.Values.{BoundValue}
use Rattle.bound_program.specs.Fits.{site_at}
use Rattle.run_model.specs.Hosts.{variable_cells}
use Rattle.run_model.specs.Constants.{no_constant}
use Rattle.run_model.specs.Arguments.{var_width}

-- how a loop merges amounts by an access
abbrev pub reduction_of : Access → Option Reduction
reduction_of access.Inc = Some Add
reduction_of access.Min = Some Min
reduction_of access.Max = Some Max
reduction_of a = None

-- how the first argument on variable n merges amounts into it
abbrev pub reduced_by : List Arg → ℕ → Option Reduction
reduced_by [] n = None
reduced_by (Dat d v a ∷ xs) n = reduced_by xs n
reduced_by (Global v a ∷ xs) n = cond (nat_eq v n) (reduction_of a) (reduced_by xs n)

module _ (b : BoundValue) where
  -- how many cells the variables before this one have
  abbrev pub cells_before : ℕ → ℕ
  cells_before zero = 0
  cells_before (suc v) = cells_before v + var_width b v

  -- where a cell stands in the list of all variables' cells
  abbrev pub variable_index : VarCell → ℕ
  variable_index v = cells_before v.variable + v.component

  -- the cell that stands there
  abbrev pub variable_at : ℕ → VarCell
  variable_at i = slice_index_or (variable_cells b) i no_constant

  -- loop, cell: how the loop merges amounts into the cell
  abbrev pub reduces_at : ℕ → VarCell → Option Reduction
  reduces_at s v = cond (nat_lt v.component (var_width b v.variable)) (reduced_by (site_at b s).args v.variable) None
