-- What a statement of `main` that is no loop does to the arrays, and what it prints (ISO C 6.5.16, with the target's index first, then the
-- old value, then the right side; `op_printf`, `op_print_dat_to_txtfile` and `op_exit` of the OP2 C API).
use Rattle.std.specs.Prelude.{ℕ, ℤ, pos, List, [], ◌∷◌, ◌++◌, length, drop, replicate, Option, Some, None, Result, Ok, Err, slice_index_or, slice_set}
use Rattle.std.specs.List.{flat_map}
use Rattle.c_tree.specs.declared.lexer.tokens.Pos.{Pos}
use Rattle.kernel_model.specs.declared.types.faults.KernelFault.{KernelFault}
use Rattle.kernel_model.specs.View.{RExprTree}
use Rattle.kernel_model.specs.Meaning.{cell, with_cell, on_value, index_in, stored}
use Rattle.mesh_decl.specs.Mesh.{dat_count}
use Rattle.mesh_decl.specs.Printed.{printed_dat, printed_line}
use Rattle.bound_program.specs.HostExpr.{value}
use Rattle.bound_program.specs.Values.{BoundValue, VarValue, ActValue, Clear, Assign, Line, Print, Exit}
use Rattle.bound_program.specs.Fits.{var_at}
use Rattle.run_model.specs.Arrays.{Arrays, array_of}
use Rattle.run_model.specs.Runs.{Run, Going, stops}

module _ (b : BoundValue) where
  module _ (arrays : Arrays) where
    -- the cells of all variables, one variable after another, by the numbers that expressions of `main` give them
    abbrev pub variable_cells : List ℤ
    variable_cells = flat_map (λ cells. cells) (drop (dat_count b.mesh) arrays)

    -- the value of an expression, or its first fault
    abbrev pub value_of : RExprTree → Result ℤ KernelFault
    value_of e = value [] variable_cells e

    -- the values of expressions in order, or the first fault
    abbrev pub values_of : List RExprTree → Result (List ℤ) KernelFault
    values_of [] = Ok []
    values_of (e ∷ es) = on_value Err (value_of e) (λ z. on_value Err (values_of es) (λ zs. Ok (z ∷ zs)))

    -- which component of the target is assigned: a scalar's first
    abbrev pub component_of : VarValue → Pos → Option RExprTree → Result ℕ KernelFault
    component_of v at None = Ok 0
    component_of v at (Some e) = on_value Err (value_of e) (λ z. index_in (length v.start) at z)

  -- the run with the statement of item k
  abbrev pub after_statement : (k : ℕ) → ActValue → Arrays → (printed : List ℕ) → Run
  after_statement k (Clear v) arrays o = Going (slice_set arrays (array_of b v) (replicate (length (var_at b v).start) (pos 0))) o
  after_statement k (Assign v index op op_at e at) arrays o =
      on_value (stops k None o) (component_of arrays (var_at b v) at index) (λ i.
      on_value (stops k None o) (value_of arrays e) (λ x.
      on_value (stops k None o) (stored op op_at (cell arrays (array_of b v) i) x) (λ z.
      Going (with_cell arrays (array_of b v) i z) o)))
  after_statement k (Line text es) arrays o =
      on_value (stops k None o) (values_of arrays es) (λ zs. Going arrays (o ++ printed_line text zs))
  after_statement k (Print d file) arrays o = Going arrays (o ++ printed_dat file b.mesh d (slice_index_or arrays d []))
  after_statement k Exit arrays o = Going arrays o
