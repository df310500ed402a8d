use Rattle.std.proofs.Common.{◌≡◌, ◌<◌, ◌+◌, suc, sym, ap, subst, ◌∙◌, arith}
use Rattle.mesh_decl.specs.Mesh.{set_size}
use Rattle.bound_program.specs.Values.{bound_of, no_site}
use Rattle.bound_program.specs.Fits.{SiteFits, site_at}
use Rattle.run_model.specs.Laws.{site_of}
use Rattle.chain_model.specs.Slices.{executes_for, needs, executes}
use Rattle.chain_needs.specs.PairSets.{pairs_of}
use Rattle.chain_needs.proofs.Agreeing.{executes_same}
use Rattle.chain_needs.proofs.ChainLoops.{site_is, site_there}
use Rattle.chain_needs.proofs.chains.executed_at.Goals as goal

pub executing_all-requires-clause-site : goal.executing_all-requires-clause-site
executing_all-requires-clause-site c = site_there (bound_of c.args.bound.now) c.requires.fits c.items_are_there.ensures.loops c.args.item c.args.site c.requires.site

pub executing_all-requires-clause-fits : goal.executing_all-requires-clause-fits
executing_all-requires-clause-fits c =
    let b = bound_of c.args.bound.now in
    c.requires.fits.sites c.args.site no_site (site_there b c.requires.fits c.items_are_there.ensures.loops c.args.item c.args.site c.requires.site)

pub returns-clause-length : goal.returns-clause-length
returns-clause-length c =
    let b = bound_of c.args.bound.now in
    c.in_ok-executing.ensures.length ∙ ap (λ z. set_size b.mesh z.set) (sym (site_is b c.args.item c.args.site c.requires.site))

pub returns-clause-has : goal.returns-clause-has
unfolding executes
returns-clause-has c = λ e r l.
    let b = bound_of c.args.bound.now in
    let o = c.args.owners.now in
    let same : site_of b c.args.item ≡ site_at b c.args.site = site_is b c.args.item c.args.site c.requires.site in
    let fits : SiteFits b (site_at b c.args.site) = c.requires.fits.sites c.args.site no_site (site_there b c.requires.fits c.items_are_there.ensures.loops c.args.item c.args.site c.requires.site) in
    let le : e < set_size b.mesh (site_at b c.args.site).set = subst (λ z. e < set_size b.mesh z.set) same l in
    let next : c.args.item + 1 ≡ suc c.args.item = omega arith in
    c.in_ok-executing.ensures.has e r le
    ∙ (ap (λ z. executes_for b o r (pairs_of z r) (site_at b c.args.site) e) c.deref.ensures.value
    ∙ (executes_same b c.is_in_range.ensures (pairs_of c.in_ok-needs.needs.items r) (needs b o (c.args.item + 1) r)
    (λ d y ld ly. c.in_ok-needs.ensures.has d y r ld ly) o r (site_at b c.args.site) e fits le
    ∙ (ap (λ z. executes_for b o r (needs b o z r) (site_at b c.args.site) e) next
    ∙ ap (λ z. executes_for b o r (needs b o (suc c.args.item) r) z e) (sym same))))
