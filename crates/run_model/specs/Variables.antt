-- The cells of all variables, one variable after another.
use Rattle.std.specs.Prelude.{◌≡◌, ◌<◌, ℕ, ℤ, List, [], map, length, slice_index}
use Rattle.mesh_decl.specs.Mesh.{no_mesh}
use Rattle.schedule_model.specs.Cells.{Store}
use Rattle.bound_program.specs.Values.{BoundValue, VarValue}
use Rattle.run_model.specs.Hosts.{variables_of, variable_cells}
use Rattle.run_model.specs.Memory.{Holds, var_start}

-- a program of these variables, with no mesh and no loop: its memory is the cells of the variables
abbrev pub of_vars : List VarValue → BoundValue
of_vars vars = record { mesh = no_mesh; kernels = []; sites = []; vars = vars; trace = [] }

-- the cells of all variables hold the store's values
abbrev pub HoldsVariables : List VarValue → List ℤ → Store → Type 0
HoldsVariables vars cells s = Holds (of_vars vars) cells s

-- each variable begins there
pub record VarsBegin (vars : List VarValue) (starts : List ℕ) : Type 0 where
  pub all : length starts ≡ length vars
  pub each : (v : ℕ) → v < length vars → slice_index starts v ≡ var_start (of_vars vars) v

-- the values of all variables hold the store
abbrev pub VariablesHold : Type 0
VariablesHold = (b : BoundValue) (s : Store) → HoldsVariables b.vars (map (variables_of s) (variable_cells b)) s

-- what holds the store is the values of all variables
abbrev pub CellsAreHeld : Type 0
CellsAreHeld = (b : BoundValue) (cells : List ℤ) (s : Store) → HoldsVariables b.vars cells s
    → cells ≡ map (variables_of s) (variable_cells b)
