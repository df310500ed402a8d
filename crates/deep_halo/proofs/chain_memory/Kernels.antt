-- The kernel of a loop, and the loop of a number.
use Rattle.std.proofs.Common.{◌≡◌, ◌<◌, ℕ, zero, suc, List, [], ◌∷◌, map, length, get_or, Some, refl, sym, ap, subst, ◌∙◌, arith}
use Rattle.std.proofs.lemmas.List.{length-map, get_or-map}
use Rattle.kernel_model.specs.declared.types.kernels.RKernel.{RKernel}
use Rattle.bound_program.specs.declared.sites.Site.{Site}
use Rattle.bound_program.specs.Values.{BoundValue, SiteValue, site_of, no_site}
use Rattle.bound_program.specs.Fits.{Fits, TakesArgs, site_at}
use Rattle.run_model.specs.Kernels.{kernel_at}

-- the kernel is there, and takes as many arguments
pub record IsThere (xs : List RKernel) (n m : ℕ) : Type 0 where
  pub kernel : RKernel
  pub below : n < length xs
  pub found : kernel_at xs n ≡ Some kernel
  pub read : (k : RKernel) → get_or xs n k ≡ kernel
  pub params : kernel.params ≡ m

pub kernel_there : (xs : List RKernel) (n m : ℕ) → TakesArgs xs n m → IsThere xs n m
kernel_there [] n m h = absurd h
kernel_there (x ∷ xs) zero m h = record { kernel = x; below = omega arith; found = refl; read = λ k. refl; params = h }
kernel_there (x ∷ xs) (suc n) m h =
    let w = kernel_there xs n m h in
    let l : suc n < suc (length xs) = omega (arith, w.below) in
    record { kernel = w.kernel; below = l; found = w.found; read = w.read; params = w.params }

-- a loop as it is read
pub site_read : (xs : List Site) (s : ℕ) (x : Site) → s < length (map site_of xs) → x ≡ get_or xs s x → get_or (map site_of xs) s no_site ≡ site_of x
site_read xs s x lt e = get_or-map site_of xs s x no_site (let n = length-map xs site_of in omega (arith, n, lt)) ∙ ap site_of (sym e)

-- so its kernel is there
pub loop_kernel : (b : BoundValue) (xs : List Site) (n : ℕ) (x : Site) → Fits b → b.sites ≡ map site_of xs → n < length b.sites → x ≡ get_or xs n x
    → (site_at b n ≡ site_of x) × IsThere b.kernels x.kernel (length x.args.items)
loop_kernel b xs n x fits same lt e =
    let is : site_at b n ≡ site_of x = ap (λ ys. get_or ys n no_site) same ∙ site_read xs n x (subst (λ ys. n < length ys) same lt) e in (
      is,
      subst (λ (s : SiteValue). IsThere b.kernels s.kernel (length s.args)) is
          (kernel_there b.kernels (site_at b n).kernel (length (site_at b n).args) (fits.sites n no_site lt).kernel),
    )
