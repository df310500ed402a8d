-- Heads and tails have the accesses of the program.
use Rattle.std.proofs.Common.{◌≡◌, List, [], ◌∷◌, map, refl, sym, ap₂, subst}
use Rattle.kernel_model.specs.Obeys.{KernelObeys}
use Rattle.bound_program.specs.declared.sites.Arg.{Arg}
use Rattle.bound_program.specs.declared.sites.Arg.TheVariants.{Dat, Global}
use Rattle.bound_program.specs.Values.{BoundValue}
use Rattle.bound_program.specs.Fits.{site_at}
use Rattle.run_model.specs.Arguments.{arg_width, mode_of, access_by}
use Rattle.checkpoint.specs.Cut.{StateValue, HasShape, tail}
use Rattle.checkpoint.specs.Laws.{HeadsObey, TailsObey}
use Rattle.checkpoint.proofs.TailFits.{wide, dim}

pub heads_obey : HeadsObey
heads_obey b k h = h

module _ (b : BoundValue) (s : StateValue) (shape : HasShape b s) where
  width_same : (x : Arg) → arg_width (tail b s) x ≡ arg_width b x
  width_same (Dat d v a) = dim b s shape d
  width_same (Global v a) = wide b s shape v

  modes_same : (xs : List Arg) → map (mode_of (tail b s)) xs ≡ map (mode_of b) xs
  modes_same [] = refl
  modes_same (x ∷ xs) = ap₂ (λ n l. record { access = access_by x; dim = n } ∷ l) (width_same x) (modes_same xs)

pub tails_obey : TailsObey
tails_obey b s shape h n f l is = subst (KernelObeys f) (sym (modes_same b s shape (site_at b n).args)) (h n f l is)
