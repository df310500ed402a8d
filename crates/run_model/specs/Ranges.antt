-- The values of a run are numbers of 32 bits.
use Rattle.std.specs.Prelude.{◌≡◌, ◌<◌, ℕ, ℤ, pos, List, length, Some, slice_index_or, FitsSigned}
use Rattle.std.specs.Int.{w32}
use Rattle.kernel_model.specs.declared.types.faults.KernelFault.{KernelFault}
use Rattle.kernel_model.specs.declared.types.kernels.RKernel.{RKernel}
use Rattle.kernel_model.specs.Obeys.{KernelObeys}
use Rattle.mesh_decl.specs.Mesh.{dat_values}
use Rattle.schedule_model.specs.Cells.{VarCell, Store, InRange}
use Rattle.schedule_model.specs.Program.{Goes}
use Rattle.schedule_model.specs.Sequential.{Seq, Stopped, Going, seq}
use Rattle.bound_program.specs.Values.{BoundValue}
use Rattle.bound_program.specs.Fits.{Fits, var_at, site_at}
use Rattle.run_model.specs.Kernels.{kernel_at}
use Rattle.run_model.specs.Programs.{program_of}
use Rattle.run_model.specs.Arguments.{modes_of}

-- the values that the mesh and the variables begin with are numbers of 32 bits
pub record StartsInRange (b : BoundValue) : Type 0 where
  pub dats : (d i : ℕ) → FitsSigned w32 (slice_index_or (dat_values b.mesh d) i (pos 0))
  pub vars : (v i : ℕ) → FitsSigned w32 (slice_index_or (var_at b v).start i (pos 0))

-- so are those of all cells before the run
abbrev pub FirstValuesInRange : Type 0
FirstValuesInRange = (b : BoundValue) → StartsInRange b → InRange (program_of b).start

-- a statement that is no loop leaves numbers of 32 bits in the variables
abbrev pub HostsKeepRange : Type 0
HostsKeepRange =
    (b : BoundValue) (k : ℕ) (s : Store) (v : VarCell → ℤ) (o : List ℕ)
    → Fits b → InRange s → (program_of b).host k s ≡ Goes v o → (x : VarCell) → FitsSigned w32 (v x)

-- the kernel of each loop obeys the modes of the loop's arguments
abbrev pub AllObey : BoundValue → Type 0
AllObey b =
    (n : ℕ) (f : RKernel)
    → n < length b.sites → kernel_at b.kernels (site_at b n).kernel ≡ Some f → KernelObeys f (modes_of b (site_at b n))

-- the values that a run leaves are numbers of 32 bits, where it stopped too
abbrev pub RunInRange : Seq KernelFault → Type 0
RunInRange (Stopped x s o) = InRange s
RunInRange (Going s o) = InRange s

-- so the values are such numbers before each item, and at the end
abbrev pub RunsKeepRange : Type 0
RunsKeepRange = (b : BoundValue) → Fits b → AllObey b → StartsInRange b → (k : ℕ) → RunInRange (seq (program_of b) k)
