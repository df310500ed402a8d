use Rattle.std.proofs.Common.{◌≡◌, ◌<◌, ◌+◌, ◌∙◌, List, length, map, get_or, refl, sym, ap, arith}
use Rattle.bound_program.specs.declared.sites.Arg.{Arg}
use Rattle.bound_program.specs.declared.sites.Site.{Site}
use Rattle.bound_program.specs.Values.{SiteValue, bound_of}
use Rattle.bound_program.specs.Fits.{site_at}
use Rattle.rank_layout.specs.Made.{writes_by}
use Rattle.rank_layout.proofs.LoopRows.{one_row}
use Rattle.rank_layout.proofs.Widest.{site_at as site_read}
use Rattle.rank_layout.proofs.write_table.loop_writes.Goals as goal

pub loop-site-preserved : goal.loop-site-preserved
loop-site-preserved c =
    let b = bound_of c.args.bound.now in
    let k = c.loop-site.site-index in
    let e = c.site-item.is ∙ ap (λ (l : List Site). get_or l k c.site-item.result) c.deref-site-items.ensures.value in
    let lt : k < length c.args.bound.now.sites.items = omega (arith, c.loop-site-test.true, ap (λ (l : List Site). length l) c.deref-site-items.ensures.value) in
    let own = site_read c.args.bound.now.sites.items k c.site-item.result lt e in
    one_row (λ s xs. xs ≡ map (writes_by (site_at b s).args) (site_at b s).args) c.loop-site.writes.items c.push.new.self.items k (k + 1)
    c.in_ok-writes_of.field-0 c.loop-site.invariant
    (c.in_ok-writes_of.ensures ∙ ap (λ (xs : List Arg). map (writes_by xs) xs) (c.deref.ensures.value ∙ sym (ap (λ (s : SiteValue). s.args) own)))
    refl c.in_ok-push.ensures.items
