use Rattle.std.proofs.Common.{◌≡◌, ◌<◌, ℕ, zero, suc, List, [], ◌∷◌, length, get_or, Some, ap₂, ◌∙◌, arith}
use Rattle.kernel_model.specs.declared.types.kernels.RKernel.{RKernel}
use Rattle.bound_program.specs.Fits.{TakesArgs}
use Rattle.run_model.specs.Kernels.{kernel_at}
use Rattle.kernel_model.specs.Effects.{faults_first}
use Rattle.rank_layout.proofs.fault_table.site_faults_first.Goals as goal

-- a kernel that takes the arguments is there
there : (xs : List RKernel) (k n : ℕ) → TakesArgs xs k n → k < length xs
there [] k n h = absurd h
there (x ∷ xs) zero n h = omega arith
there (x ∷ xs) (suc k) n h = let l = there xs k n h in omega (arith, l)

is_read : (xs : List RKernel) (i : ℕ) (d k : RKernel) → kernel_at xs i ≡ Some k → get_or xs i d ≡ k
is_read [] i d k h = cc
is_read (x ∷ xs) zero d k h = cc
is_read (x ∷ xs) (suc i) d k h = is_read xs i d k h

pub index-requires : goal.index-requires
index-requires c =
    let lt = there c.args.bound.now.kernels.items c.args.site.now.kernel (length c.args.site.now.args.items) c.requires.kernel in
    let long = c.args.bound.now.kernels.ok.0 in
    omega (arith, lt, long)

pub returns : goal.returns
returns c k is =
    c.faults_first.ensures
    ∙ ap₂ faults_first c.put_counts.ensures (c.index.ensures ∙ is_read c.args.bound.now.kernels.items c.args.site.now.kernel c.index.result.now k is)
