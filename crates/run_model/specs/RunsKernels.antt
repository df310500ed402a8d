-- A setup whose loops run kernels for their elements.
use Rattle.std.specs.Prelude.{◌≡◌, ◌<◌, ℕ, ℤ, Bool, true, List, FitsSigned}
use Rattle.std.specs.Int.{w32}
use Rattle.kernel_model.specs.declared.types.faults.KernelFault.{KernelFault}
use Rattle.kernel_model.specs.declared.types.kernels.RKernel.{RKernel}
use Rattle.kernel_model.specs.Obeys.{Mode, KernelObeys}
use Rattle.schedule_model.specs.Cells.{Cell, VarCell, Store, InRange}
use Rattle.schedule_model.specs.Program.{Free, Ordered, Goes, is_loop, elements}
use Rattle.schedule_model.specs.Setup.{Setup}
use Rattle.schedule_model.specs.Laws.{Kernels}
use Rattle.schedule_model.specs.Arguments.{access_of, modifying, is_on}
use Rattle.schedule_model.specs.ByArguments.{ReadConstants, touch_with}
use Rattle.schedule_model.specs.LoopParts.{LoopParts}
use Rattle.run_model.specs.ElementRun.{IsElementRun}

-- each loop has a kernel, which obeys the modes of its arguments and is run for each element; numbers stay within 32 bits
pub record RunsKernels (p : Setup KernelFault) (f : LoopParts p) : Type 0 where
  pub kernel : ℕ → RKernel  -- site
  pub modes : ℕ → List Mode  -- site
  pub cell_of : ℕ → ℕ → ℕ → ℕ → Cell  -- item, element, argument, component
  pub is_constant : Cell → Bool
  -- each element of a loop is run by the loop's kernel
  pub runs : (k e : ℕ) → is_loop (p.program.kind k) ≡ true → e < elements p.program k
      → IsElementRun f.entry f.dim f.width (f.arg (p.program.site k)) (f.args (p.program.site k)) e
      (modes (p.program.site k)) (cell_of k e) (kernel (p.program.site k)) is_constant (p.program.run k e)
  -- which obeys the modes of the loop's arguments
  pub obeys : (k : ℕ) → is_loop (p.program.kind k) ≡ true → KernelObeys (kernel (p.program.site k)) (modes (p.program.site k))
  -- a Free loop touches cells by its arguments, and reads constants at most
  pub read_constants : (k e : ℕ) → p.program.kind k ≡ Free → e < elements p.program k
      → ReadConstants f.entry f.dim f.width (f.arg (p.program.site k)) (f.args (p.program.site k)) e is_constant
  pub touches : (k e : ℕ) (c : Cell) → p.program.kind k ≡ Free → e < elements p.program k
      → p.touch k e c ≡ touch_with f.entry f.dim f.width (f.arg (p.program.site k)) (f.args (p.program.site k)) e is_constant c
  -- an Ordered loop modifies the dats of its arguments other than OP_READ
  pub ordered_modifies : (k a d : ℕ)
      → p.program.kind k ≡ Ordered
      → a < f.args (p.program.site k)
      → is_on d (f.arg (p.program.site k) a) ≡ true
      → modifying (access_of (f.arg (p.program.site k) a)) ≡ true → p.modifies k d ≡ true
  -- values in range
  pub start_in_range : InRange p.program.start
  pub host_in_range : (k : ℕ) (s : Store) (v : VarCell → ℤ) (o : List ℕ) → InRange s → p.program.host k s ≡ Goes v o
      → (x : VarCell) → FitsSigned w32 (v x)

-- a setup whose loops run kernels has what the theorem on schedules asks of kernels
abbrev pub SetupsHaveKernels : Type 0
SetupsHaveKernels = (p : Setup KernelFault) (f : LoopParts p) → RunsKernels p f → Kernels p
