use Rattle.std.proofs.Common.{◌≡◌, ◌<◌, length, ap, subst, None, arith}
use Rattle.op_num.specs.declared.reductions.access.Access.TheVariants.{Read}
use Rattle.bound_program.specs.declared.sites.Arg.TheVariants.{Dat}
use Rattle.bound_program.specs.Values.{bound_of, no_site}
use Rattle.bound_program.specs.Fits.{SiteFits, site_at}
use Rattle.schedule_model.specs.Scatter.{Once}
use Rattle.run_model.specs.Windows.{window_cells}
use Rattle.bound_plan.specs.Windows.{on_dats, on_variables}
use Rattle.rank_layout.proofs.ScalarLists.{once_right}
use Rattle.rank_layout.proofs.SiteArgs.{args_named}
use Rattle.rank_layout.proofs.SiteScalars.{SoFar, one_read, all_operations, all_scalars}
use Rattle.rank_layout.proofs.scalar_tables.site_scalars.Goals as goal

pub loop-i-preserved : goal.loop-i-preserved
loop-i-preserved c =
    let b = bound_of c.args.bound.now in
    let fit : SiteFits b (site_at b c.args.site) = c.requires.fits.sites c.args.site no_site c.requires.site in
    let li : c.loop-i.i < length (site_at b c.args.site).args = omega (arith, c.loop-i-test.true, ap length c.args_of-args.ensures) in
    one_read b c.args.site c.requires.site fit.apart (args_named b (site_at b c.args.site) fit) c.loop-i.i li c.args_of-args.result.now (Dat 0 None Read)
    c.loop-i.slots.items c.push_argument.new.slots.items c.loop-i.scalars.items c.push_argument.new.scalars.items c.args_of-args.ensures c.loop-i.invariant
    c.in_ok-push_argument.ensures.slots c.in_ok-push_argument.ensures.scalars

pub returns-clause-slots : goal.returns-clause-slots
returns-clause-slots c =
    let b = bound_of c.args.bound.now in
    let fit : SiteFits b (site_at b c.args.site) = c.requires.fits.sites c.args.site no_site c.requires.site in
    let end : c.loop-i.i ≡ length (site_at b c.args.site).args = omega (arith, c.loop-i-test.false, c.loop-i.auto.i-end, ap length c.args_of-args.ensures) in
    all_operations b c.args.site c.requires.site fit.apart (args_named b (site_at b c.args.site) fit) c.loop-i.slots.items c.loop-i.scalars.items
    (subst (λ n. SoFar b c.args.site n c.loop-i.slots.items c.loop-i.scalars.items) end c.loop-i.invariant)

pub returns-clause-scalars : goal.returns-clause-scalars
returns-clause-scalars c =
    let b = bound_of c.args.bound.now in
    let site = site_at b c.args.site in
    let fit : SiteFits b site = c.requires.fits.sites c.args.site no_site c.requires.site in
    let end : c.loop-i.i ≡ length site.args = omega (arith, c.loop-i-test.false, c.loop-i.auto.i-end, ap length c.args_of-args.ensures) in
    all_scalars b c.args.site c.requires.site fit.apart (args_named b site fit)
    (λ e. once_right (window_cells b (on_dats site.args) e) (window_cells b (on_variables site.args) e)
    (subst Once (c.frames_have_cells.ensures.dats b site.args e) (c.frames_have_cells.ensures.once b site e)))
    c.loop-i.slots.items c.loop-i.scalars.items
    (subst (λ n. SoFar b c.args.site n c.loop-i.slots.items c.loop-i.scalars.items) end c.loop-i.invariant)
