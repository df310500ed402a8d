use Rattle.std.proofs.Common.{◌≡◌, ◌<◌, Bool, false, List, length, get_or, ap, sym, subst, ◌∙◌, arith}
use Rattle.std.proofs.lemmas.List.{length_push}
use Rattle.bound_program.specs.declared.sites.Site.{Site}
use Rattle.bound_program.specs.Values.{SiteValue, bound_of}
use Rattle.bound_program.specs.Fits.{site_at}
use Rattle.rank_layout.specs.Made.{FaultsFirst}
use Rattle.rank_layout.proofs.TableRows.{one_entry}
use Rattle.rank_layout.proofs.Widest.{site_fits_at, site_at as site_read}
use Rattle.rank_layout.proofs.fault_table.loop_faults_first.Goals as goal

pub site_faults_first-requires : goal.site_faults_first-requires
site_faults_first-requires c =
    let e = c.site-item.is ∙ ap (λ (l : List Site). get_or l c.loop-site.site-index c.site-item.result) c.deref-site-items.ensures.value in
    let lt : c.loop-site.site-index < length c.args.bound.now.sites.items =
    omega (arith, c.loop-site-test.true, ap (λ (l : List Site). length l) c.deref-site-items.ensures.value) in
    site_fits_at (bound_of c.args.bound.now) c.args.bound.now.sites.items c.loop-site.site-index c.site-item.result c.requires.fits.sites lt e

pub loop-site-preserved : goal.loop-site-preserved
loop-site-preserved c =
    let b = bound_of c.args.bound.now in
    let k = c.loop-site.site-index in
    let e = c.site-item.is ∙ ap (λ (l : List Site). get_or l k c.site-item.result) c.deref-site-items.ensures.value in
    let lt : k < length c.args.bound.now.sites.items = omega (arith, c.loop-site-test.true, ap (λ (l : List Site). length l) c.deref-site-items.ensures.value) in
    let own = site_read c.args.bound.now.sites.items k c.site-item.result lt e in
    let here : FaultsFirst b (site_at b k) c.site_faults_first.result = subst (λ (z : SiteValue). FaultsFirst b z c.site_faults_first.result) (sym own) c.site_faults_first.ensures in
    record {
      count = ap length c.in_ok-push.ensures.items ∙ (length_push c.loop-site.first.items c.site_faults_first.result
          ∙ (let n : length c.loop-site.first.items ≡ k = c.loop-site.invariant.count in omega arith));
      each = λ s l. subst (λ (z : List Bool). FaultsFirst b (site_at b s) (get_or z s false)) (sym c.in_ok-push.ensures.items)
          (one_entry (λ n x. FaultsFirst b (site_at b n) x) false c.loop-site.first.items c.site_faults_first.result k
          c.loop-site.invariant.count c.loop-site.invariant.each here s l);
    }
