-- What the text has declared so far, and the steps of `main` so far.
use Rattle.std.specs.Prelude.{ℕ, ℤ, ◌+◌, Bool, true, false, List, [], ◌∷◌, ◌++◌, length, Option, Some, None, bytes_eq, if◌then◌else◌}
use Rattle.kernel_model.specs.declared.types.kernels.ConstDecl.{ConstDecl}
use Rattle.mesh_decl.specs.Mesh.{MeshValue, no_mesh}
use Rattle.bound_program.specs.Values.{SiteValue, VarValue}
use Rattle.main_declarations.specs.declared.names.scopes.Cells.{Cells}
use Rattle.main_declarations.specs.declared.names.scopes.Meaning.{Meaning}
use Rattle.main_declarations.specs.Names.{Scope, declare, declare_in_file, no_names}
use Rattle.bound_program.specs.Steps.{Step, Steps, NoStep, followed, one_step}

-- What is declared so far in the text. `cells` counts those of all variables, `filled` those of the mesh, `kernels` the kernels;
-- `externs` holds the numbers of the externs that are variables.
pub record Declared : Type 0 where
  pub mesh : MeshValue
  pub filled : ℕ
  pub vars : List VarValue
  pub cells : ℕ
  pub externs : List (List ℕ × ℕ)
  pub sites : List SiteValue
  pub kernels : ℕ
  pub names : Scope

-- nothing is declared
abbrev pub nothing_declared : Declared
nothing_declared = record { mesh = no_mesh; filled = 0; vars = []; cells = 0; externs = []; sites = []; kernels = 0; names = no_names }

-- ---- one variable more

-- the cells of the next variable
abbrev pub next_cells : Declared → (of_file is_array : Bool) → ℕ → Cells
next_cells k of_file is_array n = record {
  var = length k.vars;
  from = k.cells;
  count = n;
  is_array = is_array;
  of_file = of_file;
}

-- one variable more
abbrev pub with_var : VarValue → Declared → Declared
with_var v k = record k { vars = k.vars ++ v ∷ []; cells = k.cells + length v.start }

-- a name of `main` is known from here on
abbrev pub with_name : List ℕ → Meaning → Declared → Declared
with_name x m k = record k { names = declare x m k.names }

-- a name of the file is known from here on
abbrev pub with_file_name : List ℕ → Meaning → Declared → Declared
with_file_name x m k = record k { names = declare_in_file x m k.names }

-- a variable that isn't `const`
abbrev pub changing : List ℕ → List ℤ → VarValue
changing x zs = record { name = x; start = zs; constant = None; is_const = false }

-- a variable that is `const`, with its first cell among the constants of kernels
abbrev pub unchanging : List ℕ → ℤ → Option ℕ → VarValue
unchanging x z constant = record { name = x; start = z ∷ []; constant = constant; is_const = true }

-- the first cell of a constant of kernels
abbrev pub first_cell : List ConstDecl → List ℕ → Option ℕ
first_cell [] x = None
first_cell (c ∷ cs) x = if bytes_eq c.name x then Some c.from else first_cell cs x

-- ---- the steps so far

-- what is declared, and the steps so far
pub record Walked : Type 0 where
  pub declared : Declared
  pub steps : Steps

-- one step more
abbrev pub does : Step → Walked → Walked
does s a = record { declared = a.declared; steps = followed a.steps (one_step s) }

-- with this declared
abbrev pub behind : Walked → Declared → Walked
behind a k = record { declared = k; steps = a.steps }

-- no step
abbrev pub quiet : Declared → Walked
quiet k = record { declared = k; steps = NoStep }
