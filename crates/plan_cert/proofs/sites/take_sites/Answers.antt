use Rattle.std.proofs.Common.{◌<◌, ℕ, true, false, length, arith}
use Rattle.std.proofs.lemmas.List.{length-map}
use Rattle.bound_program.specs.Values.{bound_of, site_of}
use Rattle.loop_plan.specs.Values.{entries_of, site_plan_of}
use Rattle.loop_plan.specs.Places.{runs_free}
use Rattle.loop_plan.specs.Proper.{IsSitePlan}
use Rattle.loop_plan.proofs.Public.{no_plan, plans_kept, plans_added}
use Rattle.plan_cert.specs.Awaited.{awaited_sites}
use Rattle.plan_cert.specs.Certified.{colours_in}
use Rattle.plan_cert.proofs.Reading.{passed_on}
use Rattle.plan_cert.proofs.Loops.{runs_read, loop_taken, loop_passed, loop_refused}
use Rattle.plan_cert.proofs.sites.take_sites.Goals as goal
use Rattle.plan_cert.proofs.sites.take_sites.Goals.{then-index+in_ok-plan+in_ok-add, else-index}

pub returns-in_err-plan-clause-judged : goal.returns-in_err-plan-clause-judged
returns-in_err-plan-clause-judged c =
    let b = bound_of c.args.bound.now in
    let meshes = c.args.ranks.now in
    let k : ℕ = c.loop-site.site in
    let l : k < length b.sites = omega (arith, c.loop-site-test.true, c.requires.few, length-map c.args.bound.now.sites.items site_of) in
    let m : k < length c.in_ok-runs.runs.items = omega (arith, c.in_ok-runs.ensures.count) in
    let runs = runs_read c.in_ok-runs.runs.items (runs_free b) k c.index.result.now true m c.index.ensures c.in_ok-runs.ensures.runs c.if-index.true in
    passed_on b meshes c.args.size (awaited_sites b meshes (length b.sites)) c.args.lines.now _ (λ v. colours_in (entries_of v))
    c.from_residual-in_err-plan.result c.in_err-plan.field-0.0 c.from_residual-in_err-plan.ensures.1
    (loop_refused b meshes c.args.size k (length b.sites) c.args.lines.now c.loop-site.lines (colours_in (entries_of c.loop-site.plans))
    c.in_err-plan.field-0.0 l runs c.loop-site.invariant.judged c.in_err-plan.ensures.judged)

pub add-requires : goal.add-requires
add-requires c =
    let b = bound_of c.args.bound.now in
    no_plan b (IsSitePlan b c.args.ranks.now c.args.size) c.loop-site.site (entries_of c.loop-site.plans) c.loop-site.invariant.plans

pub loop-site-preserved : goal.loop-site-preserved
loop-site-preserved c =
    let b = bound_of c.args.bound.now in
    let meshes = c.args.ranks.now in
    let size : ℕ = c.args.size in
    let k : ℕ = c.loop-site.site in
    let es = entries_of c.loop-site.plans in
    let l : k < length b.sites = omega (arith, c.loop-site-test.true, c.requires.few, length-map c.args.bound.now.sites.items site_of) in
    let m : k < length c.in_ok-runs.runs.items = omega (arith, c.in_ok-runs.ensures.count) in
    elim c.if-index.branch [
      | then-index+in_ok-plan+in_ok-add w ↦ (
          let runs = runs_read c.in_ok-runs.runs.items (runs_free b) k c.index.result.now true m c.index.ensures c.in_ok-runs.ensures.runs w.if-index.true in
          let e = w.in_ok-add.ensures.entries in
          rw (w.lines-is, w.plans-is) (record {
            judged = loop_taken b meshes size k c.args.lines.now c.loop-site.lines w.take_loop.new.lines es (entries_of w.add.new.self)
                (site_plan_of w.in_ok-plan.plan) runs c.loop-site.invariant.judged w.in_ok-plan.ensures.judged e;
            plans = plans_added b (IsSitePlan b meshes size) k es (entries_of w.add.new.self) (site_plan_of w.in_ok-plan.plan) runs w.in_ok-plan.ensures.plan e c.loop-site.invariant.plans;
          }))
      | else-index w ↦ (
          let idle = runs_read c.in_ok-runs.runs.items (runs_free b) k c.index.result.now false m c.index.ensures c.in_ok-runs.ensures.runs w.if-index.false in
          rw (w.lines-is, w.plans-is) (record {
            judged = loop_passed b meshes size k c.args.lines.now c.loop-site.lines (colours_in es) idle c.loop-site.invariant.judged;
            plans = plans_kept b (IsSitePlan b meshes size) k es idle c.loop-site.invariant.plans;
          }))
    ]
