-- What a kernel leaves whose faults come before its stores.
use Rattle.std.specs.Prelude.{◌≡◌, ◌≤◌, ℕ, ℤ, List, true}
use Rattle.kernel_model.specs.declared.types.faults.KernelFault.{KernelFault}
use Rattle.kernel_model.specs.declared.types.kernels.RKernel.{RKernel}
use Rattle.kernel_model.specs.Meaning.{Store, Target, target_at, Stopped, kernel_meaning}
use Rattle.kernel_model.specs.Effects.{count_at, faults_first}

-- on any store of cells, a run of the kernel that faults leaves the store that it began with
abbrev pub StopsUnchanged : RKernel → List Target → List ℤ → Type 0
StopsUnchanged k ts consts = (s t : Store) (f : KernelFault) → kernel_meaning ts consts k s ≡ Stopped t f → t ≡ s

-- each argument has at least so many components
abbrev pub HaveCounts : List ℕ → List Target → Type 0
HaveCounts counts ts = (a : ℕ) → count_at counts a ≤ (target_at ts a).count

-- so runs a kernel whose faults come first, over arguments with at least so many components
abbrev pub UnchangedAfterFaults : Type 0
UnchangedAfterFaults =
    (counts : List ℕ) (k : RKernel) (ts : List Target) (consts : List ℤ)
    → faults_first counts k ≡ true → HaveCounts counts ts → StopsUnchanged k ts consts
