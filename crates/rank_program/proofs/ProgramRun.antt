-- The loop of an item, with the code of its kernel.
use Rattle.std.proofs.Common.{◌≡◌, ◌<◌, ℕ, true, List, map, length, get_or, sym, ap, ◌∙◌, subst, arith}
use Rattle.std.proofs.lemmas.List.{length-map}
use Rattle.schedule_model.specs.Program.{is_loop}
use Rattle.kernel_code.specs.declared.code.Code.{Code}
use Rattle.kernel_code.specs.Codes.{AreCodesOf}
use Rattle.bound_program.specs.declared.sites.Site.{Site}
use Rattle.bound_program.specs.Values.{BoundValue, SiteValue, site_of, no_site}
use Rattle.bound_program.specs.Fits.{Fits, SiteFits}
use Rattle.run_model.specs.Laws as laws
use Rattle.run_model.specs.Laws.{LoopsAreThere}
use Rattle.run_model.specs.Programs.{item_at, kind_of, loop_of}
use Rattle.rank_layout.proofs.Public.{site_at}
use Rattle.rank_program.proofs.ItemParts.{site_fits, kernel_there}

module _ (b : BoundValue) (fits : Fits b) (there : LoopsAreThere) (k n : ℕ) (is : is_loop (kind_of (item_at b k)) ≡ true)
    (loop : n ≡ loop_of (item_at b k)) (sites : List Site) (all : b.sites ≡ map site_of sites) where
  loop_there : n < length b.sites
  loop_there = let lt = there b k fits is in omega (arith, lt, loop)

  pub site_there : n < length sites
  site_there = let lt = loop_there in omega (arith, lt, ap (λ (l : List SiteValue). length l) all, length-map sites site_of)

  module _ (x : Site) (read : x ≡ get_or sites n x) where
    pub site_same : laws.site_of b k ≡ site_of x
    site_same =
        ap (λ m. get_or b.sites m no_site) (sym loop) ∙ ap (λ l. get_or l n no_site) all ∙ site_at sites n x site_there read

    pub site_fit : SiteFits b (site_of x)
    site_fit =
        subst (SiteFits b) (ap (λ l. get_or l n no_site) all ∙ site_at sites n x site_there read) (site_fits b fits n loop_there)

    pub code_there : (codes : List Code) → AreCodesOf b.kernels codes → x.kernel < length codes
    code_there codes are =
        let lt = kernel_there b.kernels x.kernel (length x.args.items) site_fit.kernel in
        omega (arith, lt, are.count)
