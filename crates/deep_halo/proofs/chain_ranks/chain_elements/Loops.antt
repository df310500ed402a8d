-- A loop's arguments are those of its number.
use Rattle.std.proofs.Common.{◌<◌, ℕ, length, get_or, sym, subst}
use Rattle.bound_program.specs.declared.sites.Arg.{Arg}
use Rattle.bound_program.specs.Values.{BoundValue, no_site}
use Rattle.bound_program.specs.Fits.{Fits, SiteFits, ArgFits, AllApart, site_at}
use Rattle.deep_halo.specs.Sound.{IsLoop}
use Rattle.deep_halo.specs.declared.chain_memory.loops.Loop.{Loop}

module _ (b : BoundValue) (l : Loop) (fits : Fits b) (is : IsLoop b l) where
  pub loop_fits : SiteFits b (site_at b l.site)
  loop_fits = fits.sites l.site no_site is.there

  pub arg_fits : (i : ℕ) (d : Arg) → i < length l.args.now → ArgFits b l.set (get_or l.args.now i d)
  arg_fits i d lt =
      subst (λ s. ArgFits b s (get_or l.args.now i d)) (sym is.set)
      (subst (λ xs. ArgFits b (site_at b l.site).set (get_or xs i d)) (sym is.args) (loop_fits.args i d (subst (λ xs. i < length xs) is.args lt)))

  pub args_apart : AllApart l.args.now
  args_apart = subst AllApart (sym is.args) loop_fits.apart
