use Rattle.std.proofs.Common.{◌<◌, ◌+◌, ◌++◌, ◌∙◌, length, get_or, drop, sym, ap, subst, arith}
use Rattle.std.specs.List.{flat_map}
use Rattle.std.proofs.lemmas.List.{length-map}
use Rattle.mesh_decl.specs.Mesh.{dat_count}
use Rattle.bound_program.specs.Values.{SiteValue, bound_of, site_of, no_site}
use Rattle.loop_plan.specs.Values.{plan_of}
use Rattle.loop_plan.specs.Needs.{AreOfDats}
use Rattle.plan_counts.specs.Parts.{with_loop}
use Rattle.plan_counts.specs.Table.{loop_fields, loops_from, totals_of, row_text}
use Rattle.plan_counts.proofs.Lines.{loop_step, totals_step}
use Rattle.plan_counts.proofs.Sites.{sets_there, kernel_there, site_read}
use Rattle.plan_counts.proofs.table.put_loops.Goals as goal

pub loop_counts-requires-clause-sets : goal.loop_counts-requires-clause-sets
loop_counts-requires-clause-sets c r lr =
    let b = bound_of c.args.bound.now in
    let lt : c.loop-site.site < length b.sites = omega (arith, c.loop-site-test.true, c.loop-site.auto.site-end, c.len-site-end.ensures, length-map c.args.bound.now.sites.items site_of) in
    sets_there b c.args.ranks.now c.requires.ranks.0 c.requires.fits c.requires.ranks.1 c.loop-site.site lt r lr

pub loop_fields-requires-clause-kernel : goal.loop_fields-requires-clause-kernel
loop_fields-requires-clause-kernel c =
    let b = bound_of c.args.bound.now in
    let sites = c.args.bound.now.sites.items in
    let s = c.loop-site.site in
    let ls : s < length sites = omega (arith, c.loop-site-test.true, c.loop-site.auto.site-end, c.len-site-end.ensures) in
    let lt : s < length b.sites = omega (arith, ls, length-map sites site_of) in
    subst (λ (z : SiteValue). z.kernel < length b.kernels) (sym (site_read sites s c.index-declared.result.now ls c.index-declared.ensures))
    (kernel_there b c.requires.fits s lt)

pub loop_fields-requires-clause-args : goal.loop_fields-requires-clause-args
loop_fields-requires-clause-args c =
    let b = bound_of c.args.bound.now in
    let sites = c.args.bound.now.sites.items in
    let s = c.loop-site.site in
    let ls : s < length sites = omega (arith, c.loop-site-test.true, c.loop-site.auto.site-end, c.len-site-end.ensures) in
    let lt : s < length b.sites = omega (arith, ls, length-map sites site_of) in
    subst (λ (z : SiteValue). AreOfDats (dat_count b.mesh) z.args) (sym (site_read sites s c.index-declared.result.now ls c.index-declared.ensures))
    ((c.bound_is_in_range.ensures b c.requires.fits).dats s lt)

pub loop-site-preserved : goal.loop-site-preserved
loop-site-preserved c =
    let b = bound_of c.args.bound.now in
    let ms = c.args.ranks.now in
    let p = plan_of c.args.plan.now in
    let sites = c.args.bound.now.sites.items in
    let s = c.loop-site.site in
    let plain = c.args.plain in
    let out = c.loop-site.out.items in
    let ls : s < length sites = omega (arith, c.loop-site-test.true, c.loop-site.auto.site-end, c.len-site-end.ensures) in
    let lt : s < length b.sites = omega (arith, ls, length-map sites site_of) in
    let site = get_or b.sites s no_site in
    let fields = c.in_ok-fields.ensures
    ∙ ap (λ (z : SiteValue). loop_fields b s z c.in_ok-counts.counts) (site_read sites s c.index-declared.result.now ls c.index-declared.ensures)
    ∙ ap (λ z. loop_fields b s site z) c.in_ok-counts.ensures in
    let row = c.in_ok-put_row.ensures ∙ ap (λ f. out ++ row_text plain f) fields in
    record {
      lines = ap (λ z. z ++ flat_map (row_text plain) (loops_from b ms p (s + 1) (drop (s + 1) b.sites))) row
          ∙ loop_step b ms p plain b.sites s out lt
          ∙ c.loop-site.invariant.lines;
      sums = c.in_ok-totals.ensures
          ∙ ap (λ t. with_loop t c.in_ok-counts.counts) c.loop-site.invariant.sums
          ∙ ap (λ z. with_loop (totals_of b ms p s) z) c.in_ok-counts.ensures
          ∙ totals_step b ms p s;
    }
