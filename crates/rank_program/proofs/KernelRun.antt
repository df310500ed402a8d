-- The run of a loop's kernel for an element.
use Rattle.std.proofs.Common.{◌≡◌, ◌<◌, ℕ, ℤ, List, [], ◌∷◌, All, get_or, Some, None, sym, refl, subst, Result, Ok, Err}
use Rattle.kernel_model.specs.declared.types.faults.KernelFault.{KernelFault}
use Rattle.kernel_model.specs.Meaning as kernel
use Rattle.mesh_decl.specs.Mesh.{set_size}
use Rattle.run_model.specs.OnWindows.{core_of}
use Rattle.bound_program.specs.declared.sites.Arg.{Arg}
use Rattle.bound_program.specs.declared.sites.Arg.TheVariants.{Dat, Global}
use Rattle.bound_program.specs.Values.{BoundValue, SiteValue}
use Rattle.bound_program.specs.Fits.{ArgFits, SiteFits}
use Rattle.rank_state.specs.Core.{ran_of}
use Rattle.rank_layout.specs.Numbered.{ArgThere}

arg_there : (b : BoundValue) (set e : ℕ) (x : Arg) → ArgFits b set x → e < set_size b.mesh set → ArgThere b e x
arg_there b set e (Dat d None a) fit le = ((fit.0, fit.1), tt)
arg_there b set e (Dat d (Some v) a) fit le =
    let via = fit.2 in
    ((fit.0, fit.1), (via.0, subst (λ s. e < set_size b.mesh s) (sym via.1) le, via.3))
arg_there b set e (Global v a) fit le = ((fit.0, fit.2), tt)

pub args_there : (b : BoundValue) (site : SiteValue) (e : ℕ) → SiteFits b site → e < set_size b.mesh site.set → All (ArgThere b e) site.args
args_there b site e fits le = λ i d lt. arg_there b site.set e (get_or site.args i d) (fits.args i d lt) le

-- a run of a kernel as a run on windows
pub as_core : {A : Type 0} (ws : List ℤ) (r : Result A KernelFault) → ran_of ws r ≡ core_of (kernel.ran_of (ws ∷ []) r)
as_core ws (Ok x) = refl
as_core ws (Err f) = refl
