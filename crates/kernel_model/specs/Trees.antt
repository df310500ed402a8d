-- Where a kernel lies in memory is nothing to it: kernels with one tree run alike, and the walk finds the same in them.
use Rattle.std.specs.Prelude.{◌≡◌, ℤ, List}
use Rattle.kernel_model.specs.declared.types.kernels.RKernel.{RKernel}
use Rattle.kernel_model.specs.View.{rkernel_of}
use Rattle.kernel_model.specs.Meaning.{Target, Store, kernel_meaning}
use Rattle.kernel_model.specs.Obeys.{Mode}
use Rattle.kernel_model.specs.Walk.{walk}

-- kernels with one tree run alike
abbrev pub RunsAlike : Type 0
RunsAlike =
    (k l : RKernel)
    → rkernel_of k ≡ rkernel_of l
    → (targets : List Target) (consts : List ℤ) (s : Store)
    → kernel_meaning targets consts k s ≡ kernel_meaning targets consts l s

-- the walk over them finds the same
abbrev pub WalksAlike : Type 0
WalksAlike = (k l : RKernel) → rkernel_of k ≡ rkernel_of l → (modes : List Mode) → walk k modes ≡ walk l modes
