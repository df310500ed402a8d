-- How a loop lets its kernel use a parameter.
use Rattle.std.specs.Prelude.{◌≡◌, ℕ, List, length, map, Contains, Some, slice_index_or}
use Rattle.op_num.specs.declared.reductions.access.Access.TheVariants.{Read}
use Rattle.kernel_model.specs.declared.types.kernels.RKernel.{RKernel}
use Rattle.kernel_model.specs.Obeys.{KernelObeys}
use Rattle.access_check.specs.declared.modes.Mode.{Mode}
use Rattle.access_check.specs.Modes.{model_of}
use Rattle.run_model.specs.Kernels.{kernel_at}
use Rattle.job_inputs.specs.declared.known_uses.ArgUse.{ArgUse}

-- what stands for a parameter that is not there: it is only read, and has no components
abbrev pub no_use : Mode
no_use = record { access = Read; dim = 0 }

-- the use of a parameter of that kernel, by its number
abbrev pub use_of : ℕ → List Mode → ℕ → ArgUse
use_of kernel modes a = record { kernel = kernel; param = a; mode = slice_index_or modes a no_use }

-- the kernel, of these, keeps to some modes, one for each of its parameters, of which this use is one
pub record IsObeyed (kernels : List RKernel) (u : ArgUse) : Type 0 where
  pub kernel : RKernel
  pub modes : List Mode
  pub is : kernel_at kernels u.kernel ≡ Some kernel
  pub count : length modes ≡ kernel.params
  pub same : u ≡ use_of u.kernel modes u.param
  pub obeys : KernelObeys kernel (map model_of modes)

-- all are obeyed
abbrev pub AreObeyed : List RKernel → List ArgUse → Type 0
AreObeyed kernels uses = (u : ArgUse) → Contains uses u → IsObeyed kernels u
