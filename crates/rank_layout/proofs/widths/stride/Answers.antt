use Rattle.std.proofs.Common.{◌<◌, List, length, get_or, ap, ◌∙◌, arith}
use Rattle.bound_program.specs.declared.sites.Site.{Site}
use Rattle.bound_program.specs.Values.{bound_of}
use Rattle.rank_layout.specs.Tables.{site_width}
use Rattle.rank_layout.proofs.Widest.{site_fits_at, widest_site}
use Rattle.rank_layout.proofs.widths.stride.Goals as goal

pub site_width-requires : goal.site_width-requires
site_width-requires c =
    let e = c.site-item.is ∙ ap (λ (l : List Site). get_or l c.loop-site.site-index c.site-item.result) c.deref-site-items.ensures.value in
    let lt : c.loop-site.site-index < length c.args.bound.now.sites.items =
    omega (arith, c.loop-site-test.true, ap (λ (l : List Site). length l) c.deref-site-items.ensures.value) in
    site_fits_at (bound_of c.args.bound.now) c.args.bound.now.sites.items c.loop-site.site-index c.site-item.result c.requires.sites lt e

pub loop-site-preserved : goal.loop-site-preserved
loop-site-preserved c =
    let e = c.site-item.is ∙ ap (λ (l : List Site). get_or l c.loop-site.site-index c.site-item.result) c.deref-site-items.ensures.value in
    let lt : c.loop-site.site-index < length c.args.bound.now.sites.items =
    omega (arith, c.loop-site-test.true, ap (λ (l : List Site). length l) c.deref-site-items.ensures.value) in (
      widest_site (site_width (bound_of c.args.bound.now)) c.args.bound.now.sites.items c.loop-site.site-index c.site-item.result c.loop-site.widest c.site_width.result
          c.max-widest.result lt e c.loop-site.invariant.0 c.site_width.ensures.width c.max-widest.ensures,
      omega (arith, c.max-widest.ensures, c.site_width.ensures.few, c.loop-site.invariant.1),
    )
