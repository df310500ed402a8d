-- What the statements of `main` that are no loop do: to the variables, and to what is printed (ISO C 6.5.16, with the target's index
-- first, then the old value, then the right side; `op_printf`, `op_print_dat_to_txtfile` and `op_exit` of the OP2 C API).
use Rattle.std.specs.Prelude.{ℕ, suc, ℤ, pos, ◌&&◌, List, [], ◌∷◌, ◌++◌, map, length, Option, Some, None, Result, Ok, Err, nat_eq, if◌then◌else◌}
use Rattle.std.specs.List.{flat_map}
use Rattle.c_tree.specs.declared.lexer.tokens.Pos.{Pos}
use Rattle.c_tree.specs.declared.declarations.AssignOp.{AssignOp}
use Rattle.kernel_model.specs.declared.types.faults.KernelFault.{KernelFault}
use Rattle.kernel_model.specs.Meaning.{on_value, index_in, stored}
use Rattle.mesh_decl.specs.Mesh.{set_size, dat_set, dat_dim}
use Rattle.mesh_decl.specs.Printed.{printed_dat, printed_line}
use Rattle.schedule_model.specs.Cells.{Cell, Data, Variable, VarCell, Store}
use Rattle.schedule_model.specs.Program.{Hosted, Halts, Goes}
use Rattle.kernel_model.specs.View.{RExprTree}
use Rattle.bound_program.specs.HostExpr.{value}
use Rattle.bound_program.specs.Values.{BoundValue, VarValue, ActValue, Clear, Assign, Line, Print, Exit}
use Rattle.bound_program.specs.Fits.{var_at}
use Rattle.run_model.specs.Windows.{numbers}

-- the cells of all variables from number v on, one variable after another
abbrev pub cells_from : ℕ → List VarValue → List VarCell
cells_from v [] = []
cells_from v (x ∷ xs) = map (λ i. record { variable = v; component = i }) (numbers (length x.start)) ++ cells_from (suc v) xs

-- the values of the variables in the store
abbrev pub variables_of : Store → VarCell → ℤ
variables_of s v = s (Variable v)

-- the variables with z in one cell
abbrev pub with_cell : VarCell → ℤ → (VarCell → ℤ) → VarCell → ℤ
with_cell c z vars v = if nat_eq v.variable c.variable && nat_eq v.component c.component then z else vars v

-- the variables with 0 in all cells of one of them
abbrev pub with_zeros : ℕ → (VarCell → ℤ) → VarCell → ℤ
with_zeros n vars v = if nat_eq v.variable n then pos 0 else vars v

module _ (b : BoundValue) where
  -- the cells of all variables, by the numbers that expressions of `main` give them
  abbrev pub variable_cells : List VarCell
  variable_cells = cells_from 0 b.vars

  -- the cells of a dat, element by element
  abbrev pub dat_cells : ℕ → List Cell
  dat_cells d =
      flat_map
      (λ x. map (λ i. Data (record { dat = d; element = x; component = i })) (numbers (dat_dim b.mesh d)))
      (numbers (set_size b.mesh (dat_set b.mesh d)))

  module _ (s : Store) where
    -- the value of an expression, or its first fault
    abbrev pub value_of : RExprTree → Result ℤ KernelFault
    value_of e = value [] (map (variables_of s) variable_cells) e

    -- the values of expressions in order, or the first fault
    abbrev pub values_of : List RExprTree → Result (List ℤ) KernelFault
    values_of [] = Ok []
    values_of (e ∷ es) = on_value Err (value_of e) (λ z. on_value Err (values_of es) (λ zs. Ok (z ∷ zs)))

    -- which component of the target is assigned: a scalar's first
    abbrev pub component_of : VarValue → Pos → Option RExprTree → Result ℕ KernelFault
    component_of v at None = Ok 0
    component_of v at (Some e) = on_value Err (value_of e) (λ z. index_in (length v.start) at z)

    -- a statement prints these bytes
    abbrev pub prints : List ℕ → Hosted KernelFault
    prints bytes = Goes (variables_of s) bytes

    -- an assignment
    abbrev pub assigned : ℕ → Option RExprTree → AssignOp → Pos → RExprTree → Pos → Hosted KernelFault
    assigned v index op op_at e at =
        on_value Halts (component_of (var_at b v) at index) (λ i.
        on_value Halts (value_of e) (λ x.
        on_value Halts (stored op op_at (s (Variable (record { variable = v; component = i }))) x) (λ z.
        Goes (with_cell (record { variable = v; component = i }) z (variables_of s)) [])))

    -- what a statement does
    abbrev pub act_run : ActValue → Hosted KernelFault
    act_run (Clear v) = Goes (with_zeros v (variables_of s)) []
    act_run (Assign v index op op_at e at) = assigned v index op op_at e at
    act_run (Line text es) = on_value Halts (values_of es) (λ zs. prints (printed_line text zs))
    act_run (Print d file) = prints (printed_dat file b.mesh d (map s (dat_cells d)))
    act_run Exit = prints []
