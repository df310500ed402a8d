-- All cells of a bound program in one memory: the dats in order, each element by element, and then the variables.
use Rattle.std.specs.Prelude.{◌≡◌, ◌<◌, ◌≤◌, ◌⊎◌, ℕ, zero, suc, ℤ, pos, ◌+◌, ◌*◌, Bool, true, ◌&&◌, List, [], ◌∷◌, length, map, take, drop, ◌++◌, nat_lt, slice_index_or, slice_set}
use Rattle.std.specs.List.{flat_map}
use Rattle.kernel_model.specs.declared.types.faults.KernelFault.{KernelFault}
use Rattle.kernel_model.specs.declared.types.kernels.RKernel.{RKernel}
use Rattle.kernel_model.specs.Meaning.{kernel_meaning}
use Rattle.kernel_model.specs.Meaning as kernel
use Rattle.mesh_decl.specs.Mesh.{dat_count, dat_values, set_size, dat_set, map_count, IsMapAt, IsDatAt}
use Rattle.schedule_model.specs.Cells.{Cell, Data, Variable, Store}
use Rattle.schedule_model.specs.Effects.{Ran, Faulted, Finished}
use Rattle.schedule_model.specs.Program.{elements}
use Rattle.schedule_model.specs.Sequential.{with_variables}
use Rattle.bound_program.specs.declared.sites.Arg.{Arg}
use Rattle.bound_program.specs.Values.{BoundValue, VarValue}
use Rattle.bound_program.specs.Fits.{Fits}
use Rattle.run_model.specs.Windows.{numbers, Reached, reached, cell_in, width}
use Rattle.run_model.specs.Kernels.{constant_values}
use Rattle.run_model.specs.Hosts.{variables_of, with_cell, with_zeros, variable_cells, dat_cells}
use Rattle.run_model.specs.Programs.{program_of}
use Rattle.run_model.specs.Arguments.{dat_width, var_width}
use Rattle.run_model.specs.Laws.{site_of, IsLoopOf}

module _ (b : BoundValue) where
  -- where a dat begins
  abbrev pub dat_start : ℕ → ℕ
  dat_start zero = 0
  dat_start (suc d) = dat_start d + set_size b.mesh (dat_set b.mesh d) * dat_width b d

  -- where a variable begins
  abbrev pub var_start : ℕ → ℕ
  var_start zero = dat_start (dat_count b.mesh)
  var_start (suc v) = var_start v + var_width b v

  -- how many cells there are
  abbrev pub memory_length : ℕ
  memory_length = var_start (length b.vars)

  -- where a cell stands
  abbrev pub place_of : Cell → ℕ
  place_of (Data c) = dat_start c.dat + (c.element * dat_width b c.dat + c.component)
  place_of (Variable v) = var_start v.variable + v.component

  -- the mesh or a variable has the cell
  abbrev pub has_cell : Cell → Bool
  has_cell (Data c) =
      nat_lt c.dat (dat_count b.mesh)
      && (nat_lt c.element (set_size b.mesh (dat_set b.mesh c.dat)) && nat_lt c.component (dat_width b c.dat))
  has_cell (Variable v) = nat_lt v.variable (length b.vars) && nat_lt v.component (var_width b v.variable)

  -- the memory has the value of each cell
  pub record Holds (m : List ℤ) (s : Store) : Type 0 where
    pub length : length m ≡ memory_length
    pub values : (c : Cell) → has_cell c ≡ true → slice_index_or m (place_of c) (pos 0) ≡ s c

  -- the cells of what an argument reaches
  abbrev pub span_of : Reached → kernel.Target
  span_of r = record { array = 0; from = place_of (cell_in r 0); count = width b r }

  -- those of all arguments, for an element
  abbrev pub spans : List Arg → ℕ → List kernel.Target
  spans args e = map (λ a. span_of (reached b e a)) args

  -- both runs stop with one fault, or both finish and the memory holds the store
  abbrev pub EndsHolding : kernel.Ran → Ran KernelFault → Type 0
  EndsHolding (kernel.Finished l) (Finished t) = Holds (slice_index_or l 0 []) t
  EndsHolding (kernel.Stopped l f) (Faulted g) = f ≡ g
  EndsHolding (kernel.Finished l) (Faulted g) = ⊥
  EndsHolding (kernel.Stopped l f) (Finished t) = ⊥

-- each dat ends where the next begins at the latest, and so does each variable, behind the dats; a variable has its components
pub record IsInOrder (b : BoundValue) : Type 0 where
  pub dats : (d n : ℕ) → d < n → dat_start b d + set_size b.mesh (dat_set b.mesh d) * dat_width b d ≤ dat_start b n
  pub vars : (v n : ℕ) → v < n → var_start b v + var_width b v ≤ var_start b n
  pub behind : (n : ℕ) → var_start b 0 ≤ var_start b n
  pub components : (v i : ℕ)
      → v < length b.vars → i < var_width b v → has_cell b (Variable (record { variable = v; component = i })) ≡ true

-- dats and variables stand in the memory in order
abbrev pub MemoryIsInOrder : Type 0
MemoryIsInOrder = (b : BoundValue) → IsInOrder b

-- the run of a loop for an element is the kernel's meaning on the memory
abbrev pub ElementsRunOnMemory : Type 0
ElementsRunOnMemory =
    (b : BoundValue) (k e : ℕ) (f : RKernel) (m : List ℤ) (s : Store)
    → ((n : ℕ) → n < map_count b.mesh → IsMapAt b.mesh n)
    → Fits b → IsLoopOf b k f → e < elements (program_of b) k → Holds b m s
    → EndsHolding b (kernel_meaning (spans b (site_of b k).args e) (constant_values b s) f (m ∷ [])) ((program_of b).run k e s)

-- the values of all variables are the memory's end
abbrev pub MemoryEndsWithVariables : Type 0
MemoryEndsWithVariables =
    (b : BoundValue) (m : List ℤ) (s : Store)
    → Holds b m s → map (variables_of s) (variable_cells b) ≡ drop (var_start b 0) m

-- the values of a dat are that part of the memory
abbrev pub MemoryHasDats : Type 0
MemoryHasDats =
    (b : BoundValue) (m : List ℤ) (s : Store) (d : ℕ)
    → Holds b m s → d < dat_count b.mesh
    → map s (dat_cells b d) ≡ take (set_size b.mesh (dat_set b.mesh d) * dat_width b d) (drop (dat_start b d) m)

-- the memory before the run
abbrev pub first_memory : BoundValue → List ℤ
first_memory b = flat_map (dat_values b.mesh) (numbers (dat_count b.mesh)) ++ flat_map (λ (v : VarValue). v.start) b.vars

-- the memory before the run holds the values that the program begins with
abbrev pub FirstMemoryHolds : Type 0
FirstMemoryHolds = (b : BoundValue) → ((d : ℕ) → d < dat_count b.mesh → IsDatAt b.mesh d) → Holds b (first_memory b) (program_of b).start

-- with another value in the place of a variable's cell, it holds the store with that value in the cell
abbrev pub MemoryTakesAssignments : Type 0
MemoryTakesAssignments =
    (b : BoundValue) (m : List ℤ) (s : Store) (v i : ℕ) (z : ℤ)
    → Holds b m s → v < length b.vars → i < var_width b v
    → Holds b (slice_set m (var_start b v + i) z) (with_variables (with_cell (record { variable = v; component = i }) z (variables_of s)) s)

-- with zeros in the places of a variable's cells alone, it holds the store with zeros in those cells
abbrev pub MemoryTakesZeros : Type 0
MemoryTakesZeros =
    (b : BoundValue) (m u : List ℤ) (s : Store) (v : ℕ)
    → Holds b m s → v < length b.vars
    → length u ≡ length m
    → ((i : ℕ) → i < var_width b v → slice_index_or u (var_start b v + i) (pos 0) ≡ pos 0)
    → ((k : ℕ) → (k < var_start b v) ⊎ (var_start b v + var_width b v ≤ k) → slice_index_or u k (pos 0) ≡ slice_index_or m k (pos 0))
    → Holds b u (with_variables (with_zeros v (variables_of s)) s)
