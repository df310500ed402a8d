use Rattle.std.proofs.Common.{sym, subst, length, arith}
use Rattle.bound_program.specs.Values.{bound_of}
use Rattle.loop_plan.specs.SharedPlans.{SitePlanValue, site_plan_of}
use Rattle.schedule_check.specs.Runs.{AreRunsOf}
use Rattle.schedule_check.proofs.plan_orders.LoopRuns.{has_plan, slot_found, not_both, runs_put}
use Rattle.schedule_check.proofs.plan_orders.site_runs.put_runs.Goals as goal

pub unreachable-requires : goal.unreachable-requires
unreachable-requires c = not_both c.args.plan.now.sites c.args.site c.in-Some.slot c.in-Some.ensures.slot c.in_default-get.ensures

pub loop_runs-requires-clause-plan : goal.loop_runs-requires-clause-plan
loop_runs-requires-clause-plan c =
    has_plan (bound_of c.args.bound.now) c.args.ranks.now c.args.plan.now c.args.site (site_plan_of c.in-Some-get.found.now) c.requires.plan c.in-Some-get.ensures

pub returns-in_ok-runs-clause-runs : goal.returns-in_ok-runs-clause-runs
returns-in_ok-runs-clause-runs c =
    let n = length c.args.ranks.now in
    let v = c.args.plan.now.sites in
    let found : SitePlanValue = site_plan_of c.in-Some-get.found.now in
    runs_put n c.args.plan.now.block c.args.group v c.args.site c.args.runs.now c.in-Some.slot c.in_ok-runs.field-0
    (omega (arith, c.in-Some.ensures.within, c.requires.count)) c.in-Some.ensures.slot
    (subst (λ (z : SitePlanValue). AreRunsOf n c.args.plan.now.block c.args.group z.colours c.in_ok-runs.field-0.items)
    (sym (slot_found v c.args.site c.in-Some.slot found c.in-Some.ensures.slot c.in-Some-get.ensures)) c.in_ok-runs.ensures)
    c.requires.before
