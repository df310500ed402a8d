-- The run of a kernel for one element, on a list of its windows: a frame.
use Rattle.std.specs.Prelude.{◌≡◌, ◌<◌, ◌+◌, ℕ, Bool, List, [], ◌∷◌, map, length, get_or, slice_index_or}
use Rattle.kernel_model.specs.declared.types.faults.KernelFault.{KernelFault}
use Rattle.kernel_model.specs.declared.types.kernels.RKernel.{RKernel}
use Rattle.kernel_model.specs.Meaning.{Target, target_at, kernel_meaning}
use Rattle.kernel_model.specs.Meaning as kernel
use Rattle.kernel_model.specs.Obeys.{Mode, mode_at}
use Rattle.schedule_model.specs.Cells.{Cell, Variable, Store}
use Rattle.schedule_model.specs.Effects.{Ran}
use Rattle.schedule_model.specs.Arguments.{Argument, Entries}
use Rattle.schedule_model.specs.Layout.{Core, Faults, Leaves, of_core}
use Rattle.run_model.specs.ElementRun.{IsElementRun}

-- what stands for a cell that is not there
abbrev pub no_cell : Cell
no_cell = Variable (record { variable = 0; component = 0 })

-- the arguments name the cells of one list, which has no others and none twice
pub record OnWindows (modes : List Mode) (cell_of : ℕ → ℕ → Cell) (cells : List Cell) (ts : List Target) : Type 0 where
  pub counts : (a : ℕ) → (target_at ts a).count ≡ (mode_at modes a).dim
  pub arrays : (a i : ℕ) → i < (mode_at modes a).dim → (target_at ts a).array ≡ 0
  pub inside : (a i : ℕ) → i < (mode_at modes a).dim → (target_at ts a).from + i < length cells
  pub are : (a i : ℕ) → i < (mode_at modes a).dim → get_or cells ((target_at ts a).from + i) no_cell ≡ cell_of a i
  pub covered : (j : ℕ) → j < length cells → (a : ℕ) × (i : ℕ) × (i < (mode_at modes a).dim) × ((target_at ts a).from + i ≡ j)
  pub once : (i j : ℕ) → i < length cells → j < length cells → get_or cells i no_cell ≡ get_or cells j no_cell → i ≡ j

-- the windows after a run on them, or its fault
abbrev pub core_of : kernel.Ran → Core KernelFault
core_of (kernel.Finished l) = Leaves (slice_index_or l 0 [])
core_of (kernel.Stopped l f) = Faults f

-- the run of an element is the kernel's meaning on the windows' values, as a layout of the flat machine asks for it
abbrev pub ElementRunsOnWindows : Type 0
ElementRunsOnWindows =
    (entry : Entries) (dim width : ℕ → ℕ) (arg : ℕ → Argument) (n e : ℕ) (modes : List Mode) (cell_of : ℕ → ℕ → Cell)
    (k : RKernel) (is_constant : Cell → Bool) (run : Store → Ran KernelFault)
    → (h : IsElementRun entry dim width arg n e modes cell_of k is_constant run)
    → (cells : List Cell) (ts : List Target) → OnWindows modes cell_of cells ts
    → (s : Store) → run s ≡ of_core cells s (core_of (kernel_meaning ts (h.consts s) k (map s cells ∷ [])))
