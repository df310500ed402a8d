use Rattle.std.proofs.Common.{◌≡◌, ◌≢◌, ◌<◌, ◌≤◌, List, ⊎_elim, ap, subst, ◌∙◌, arith}
use Rattle.std.proofs.lemmas.Bool.{cases_lt}
use Rattle.bound_program.specs.declared.sites.Arg.{Arg}
use Rattle.schedule_model.specs.Cells.{Variable}
use Rattle.bound_program.specs.Fits.{site_at}
use Rattle.run_model.specs.Variables.{of_vars}
use Rattle.deep_halo.specs.Sound.{program_in, ranks_in}
use Rattle.deep_halo.specs.Cells.{BlocksHold}
use Rattle.deep_halo.specs.Merging.{changed_all}
use Rattle.deep_halo.specs.Partials.{units}
use Rattle.deep_halo.proofs.chain_ranks.OneElement.{read, has_read}
use Rattle.deep_halo.proofs.chain_ranks.Summing.{unit_put, unit_else}
use Rattle.deep_halo.proofs.chain_ranks.units.put_units.Goals as goal

pub loop-rank-preserved : goal.loop-rank-preserved
loop-rank-preserved c r v q lr h is =
    let b = program_in c.args.blocks.now in
    let n = ranks_in c.args.blocks.now in
    let l = c.args.all.now in
    let of = c.requires.of in
    let k = c.loop-rank.rank in
    let p = read (of_vars b.vars) c.loop-rank.partials in
    let holds : BlocksHold (of_vars b.vars) n c.put_rank.new.partials (changed_all units k (site_at b l.site).args (site_at b l.site).args p) =
    subst (λ (xs : List Arg). BlocksHold (of_vars b.vars) n c.put_rank.new.partials (changed_all units k xs xs p)) of.args
    (c.put_rank.ensures p (has_read (of_vars b.vars) n c.loop-rank.partials (c.loop-rank.auto.partials ∙ c.requires.partials))) in
    let there : r ≤ n = omega (arith, lr, c.loop-rank-test.true) in
    holds.cells r (Variable v) there h ∙ ⊎_elim
    (λ (lt : r < k).
    let ne : r ≢ k = λ (e : r ≡ k). omega (arith, e, lt) in
    unit_else b c.requires.sound.fits l.site of.there k r p v ne ∙ c.loop-rank.invariant r v q lt h is)
    (λ (ge : k ≤ r).
    let same : r ≡ k = omega (arith, lr, ge) in
    ap (λ x. changed_all units k (site_at b l.site).args (site_at b l.site).args p x (Variable v)) same ∙ unit_put b c.requires.sound.fits l.site of.there k p v q is)
    (cases_lt r k)
