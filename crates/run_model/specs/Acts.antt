-- What the statements of `main` that are no loop do to the cells of variables.
use Rattle.std.specs.Prelude.{◌≡◌, map, ℕ, ℤ, pos, List, [], ◌∷◌, ◌++◌, Option, Some, None, Result, Ok, Err, option_map, slice_index_or}
use Rattle.c_tree.specs.declared.lexer.tokens.Pos.{Pos}
use Rattle.c_tree.specs.declared.declarations.AssignOp.{AssignOp}
use Rattle.kernel_model.specs.declared.types.faults.KernelFault.{KernelFault}
use Rattle.kernel_model.specs.Meaning.{on_value, index_in, stored}
use Rattle.mesh_decl.specs.Printed.{printed_line}
use Rattle.schedule_model.specs.Cells.{Store}
use Rattle.schedule_model.specs.Program.{Hosted, Halts, Goes}
use Rattle.schedule_model.specs.Sequential.{with_variables}
use Rattle.kernel_model.specs.View.{RExprTree, rexpr_of}
use Rattle.bound_program.specs.HostExpr.{value, closed}
use Rattle.bound_program.specs.Values.{BoundValue, ActValue, Assign, var_of}
use Rattle.run_model.specs.Memory.{Holds}
use Rattle.run_model.specs.declared.gather.host_acts.acts.Assignment.{Assignment}
use Rattle.run_model.specs.declared.gather.host_acts.acts.Variables.{Variables}
use Rattle.run_model.specs.Variables.{of_vars, VarsBegin}

-- the variables have these cells
module _ (cells : List ℤ) where
  -- the values of expressions in order, or the first fault
  abbrev pub values_in : List RExprTree → Result (List ℤ) KernelFault
  values_in [] = Ok []
  values_in (e ∷ es) = on_value Err (value [] cells e) (λ z. on_value Err (values_in es) (λ zs. Ok (z ∷ zs)))

  -- which of so many components is assigned: a scalar's first
  abbrev pub component_in : ℕ → Pos → Option RExprTree → Result ℕ KernelFault
  component_in count at None = Ok 0
  component_in count at (Some e) = on_value Err (value [] cells e) (λ z. index_in count at z)

  -- what an assignment stores in the cell at this place
  abbrev pub new_value_in : ℕ → AssignOp → Pos → RExprTree → Result ℤ KernelFault
  new_value_in place op op_at e = on_value Err (value [] cells e) (λ x. stored op op_at (slice_index_or cells place (pos 0)) x)

-- the program of the variables
abbrev pub program_of : Variables → BoundValue
program_of x = of_vars (map var_of x.vars.now)

-- each variable begins where the table says
abbrev pub Begins : Variables → Type 0
Begins x = VarsBegin (map var_of x.vars.now) x.starts.now

-- an assignment of the program as a statement
abbrev pub assignment_of : ℕ → Assignment → ActValue
assignment_of var x =
    Assign var (option_map (closed x.told.now) (option_map rexpr_of x.index.now)) x.op x.op_at
    (closed x.told.now (rexpr_of x.value.now)) x.at

-- A statement has been done on the store s, with that memory and output after it: the memory holds the store after it and what
-- it prints stands behind the old output, or it has a fault and prints nothing.
module _ (b : BoundValue) (m : List ℤ) (s : Store) (old new : List ℕ) where
  -- what the code left is what the statement does
  abbrev pub ActEnds : {A : Type 0} → Result A KernelFault → Hosted KernelFault → Type 0
  ActEnds (Ok x) (Goes v bytes) = Holds b m (with_variables v s) × (new ≡ old ++ bytes)
  ActEnds (Err f) (Halts g) = (f ≡ g) × (new ≡ old)
  ActEnds (Ok x) (Halts g) = ⊥
  ActEnds (Err f) (Goes v bytes) = ⊥

-- the values are there, or the first fault
abbrev pub GivesValues : {A : Type 0} → Result A KernelFault → List ℤ → Result (List ℤ) KernelFault → Type 0
GivesValues (Ok x) there (Ok zs) = there ≡ zs
GivesValues (Err f) there (Err g) = f ≡ g
GivesValues (Ok x) there (Err g) = ⊥
GivesValues (Err f) there (Ok zs) = ⊥

-- the text was printed with its values, or nothing was, since they have a fault
abbrev pub PrintsLine : {A : Type 0} → List ℕ → (old new : List ℕ) → Result A KernelFault → Result (List ℤ) KernelFault → Type 0
PrintsLine text old new (Ok x) (Ok zs) = new ≡ old ++ printed_line text zs
PrintsLine text old new (Err f) (Err g) = (f ≡ g) × (new ≡ old)
PrintsLine text old new (Ok x) (Err g) = ⊥
PrintsLine text old new (Err f) (Ok zs) = ⊥
