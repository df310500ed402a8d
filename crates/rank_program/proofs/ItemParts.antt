-- The kernels that the loops of a program run.
use Rattle.std.proofs.Common.{◌≡◌, ◌<◌, ℕ, zero, suc, List, [], ◌∷◌, length, get_or, sum_by, Some, refl, sym, ap, ◌∙◌, subst, arith}
use Rattle.kernel_model.specs.declared.types.kernels.RKernel.{RKernel}
use Rattle.kernel_model.specs.Resolved.{IsResolved}
use Rattle.bound_program.specs.Values.{BoundValue, SiteValue, no_site}
use Rattle.bound_program.specs.Fits.{Fits, SiteFits, TakesArgs, constant_cells}
use Rattle.run_model.specs.Kernels.{constants, kernel_at}
use Rattle.run_model.specs.Constants.{AreNumbered}

-- a kernel that takes the arguments is there
pub kernel_there : (xs : List RKernel) (k n : ℕ) → TakesArgs xs k n → k < length xs
kernel_there [] k n h = absurd h
kernel_there (x ∷ xs) zero n h = omega arith
kernel_there (x ∷ xs) (suc k) n h = let l = kernel_there xs k n h in omega (arith, l)

takes_all : (xs : List RKernel) (k n : ℕ) (f : RKernel) → TakesArgs xs k n → n ≡ (get_or xs k f).params
takes_all [] k n f h = absurd h
takes_all (x ∷ xs) zero n f h = sym h
takes_all (x ∷ xs) (suc k) n f h = takes_all xs k n f h

kernel_is : (xs : List RKernel) (k : ℕ) (f : RKernel) → k < length xs → kernel_at xs k ≡ Some (get_or xs k f)
kernel_is [] k f lt = absurd (omega arith)
kernel_is (x ∷ xs) zero f lt = refl
kernel_is (x ∷ xs) (suc k) f lt = kernel_is xs k f (omega arith)

module _ (b : BoundValue) (fits : Fits b) where
  pub site_fits : (n : ℕ) → n < length b.sites → SiteFits b (get_or b.sites n no_site)
  site_fits n lt = fits.sites n no_site lt

  module _ (site : SiteValue) (fit : SiteFits b site) (f : RKernel) (is : f ≡ get_or b.kernels site.kernel f) where
    there : site.kernel < length b.kernels
    there = kernel_there b.kernels site.kernel (length site.args) fit.kernel

    pub takes : length site.args ≡ f.params
    takes = takes_all b.kernels site.kernel (length site.args) f fit.kernel ∙ ap (λ (x : RKernel). x.params) (sym is)

    pub kernel_of : kernel_at b.kernels site.kernel ≡ Some f
    kernel_of = kernel_is b.kernels site.kernel f there ∙ ap Some (sym is)

    pub resolved : AreNumbered b → (n : ℕ) → n ≡ length (constants b) → IsResolved n f
    resolved numbered n long = subst (λ m. IsResolved m f) (sym (long ∙ numbered.count))
        (subst (λ (x : RKernel). IsResolved (sum_by constant_cells b.vars) x) (sym is) (fits.kernels site.kernel f there).resolved)
