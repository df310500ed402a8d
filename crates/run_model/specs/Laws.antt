-- The runs of a loop's elements are those of its kernel.
use Rattle.std.specs.Prelude.{◌≡◌, ◌<◌, ℕ, true, length, Some}
use Rattle.op_num.specs.Access.{OpRead}
use Rattle.kernel_model.specs.declared.types.faults.KernelFault.{KernelFault}
use Rattle.kernel_model.specs.declared.types.kernels.RKernel.{RKernel}
use Rattle.kernel_model.specs.Obeys.{KernelObeys}
use Rattle.schedule_model.specs.Cells.{Cell, Store, InRange}
use Rattle.schedule_model.specs.Effects.{Ran, Finished}
use Rattle.schedule_model.specs.Program.{is_loop}
use Rattle.schedule_model.specs.Tells.{All}
use Rattle.run_model.specs.ElementRun.{IsElementRun}
use Rattle.run_model.specs.OnWindows.{OnWindows}
use Rattle.bound_program.specs.Values.{BoundValue, SiteValue}
use Rattle.bound_program.specs.Fits.{Fits, ActFits, site_at}
use Rattle.run_model.specs.Windows.{window_cells, windows}
use Rattle.run_model.specs.Kernels.{kernel_at, constant_values}
use Rattle.run_model.specs.Programs.{item_at, kind_of, loop_of, act_in, program_of}
use Rattle.run_model.specs.Arguments.{argument_at, entries, dat_width, var_width, modes_of, cell_of, is_constant}

-- the loop of an item
abbrev pub site_of : BoundValue → ℕ → SiteValue
site_of b k = site_at b (loop_of (item_at b k))

-- the loop of an item is there
abbrev pub LoopsAreThere : Type 0
LoopsAreThere = (b : BoundValue) (k : ℕ) → Fits b → is_loop (kind_of (item_at b k)) ≡ true → loop_of (item_at b k) < length b.sites

-- what an item's statement names is there
abbrev pub ActsAreThere : Type 0
ActsAreThere = (b : BoundValue) (k : ℕ) → Fits b → ActFits b (act_in (item_at b k))

-- the run of a loop for an element is that of this kernel
pub record RunsKernel (b : BoundValue) (site : SiteValue) (e : ℕ) (f : RKernel) (run : Store → Ran KernelFault) : Type 0 where
  pub is_run : IsElementRun (entries b) (dat_width b) (var_width b) (argument_at site) (length site.args) e
      (modes_of b site) (cell_of b site e) f (is_constant b) run
  pub consts : (s : Store) → is_run.consts s ≡ constant_values b s

-- item k is a loop of this kernel
pub record IsLoopOf (b : BoundValue) (k : ℕ) (f : RKernel) : Type 0 where
  pub is_loop : is_loop (kind_of (item_at b k)) ≡ true
  pub kernel : kernel_at b.kernels (site_of b k).kernel ≡ Some f

-- a loop runs its kernel for each element
abbrev pub ElementsRunKernels : Type 0
ElementsRunKernels =
    (b : BoundValue) (k e : ℕ) (f : RKernel)
    → Fits b → IsLoopOf b k f → RunsKernel b (site_of b k) e f ((program_of b).run k e)

-- a loop's run of an element keeps all values in range
abbrev pub LoopsKeepRange : Type 0
LoopsKeepRange =
    (b : BoundValue) (k e : ℕ) (f : RKernel) (s t : Store)
    → Fits b → IsLoopOf b k f → InRange s → (program_of b).run k e s ≡ Finished t → InRange t

-- where the kernel obeys the modes of the loop's arguments, it keeps each cell that OP_READ arguments alone reach, or none
abbrev pub LoopsKeepReads : Type 0
LoopsKeepReads =
    (b : BoundValue) (k e : ℕ) (f : RKernel) (s t : Store) (c : Cell)
    → Fits b → IsLoopOf b k f → KernelObeys f (modes_of b (site_of b k)) → (program_of b).run k e s ≡ Finished t
    → All (entries b) (dat_width b) (var_width b) (argument_at (site_of b k)) (length (site_of b k).args) e c (λ x. x ≡ OpRead)
    → t c ≡ s c

-- the windows of an element's run are the cells that its arguments reach, each once
abbrev pub WindowsAreReached : Type 0
WindowsAreReached =
    (b : BoundValue) (site : SiteValue) (e : ℕ)
    → OnWindows (modes_of b site) (cell_of b site e) (window_cells b site.args e) (windows b site.args e)
