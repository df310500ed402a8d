use Rattle.std.proofs.Common.{ap, length, arith}
use Rattle.loop_plan.specs.Values.{SitePlanValue, site_plan_of}
use Rattle.loop_plan.proofs.Public.{site_read, site_none}
use Rattle.schedule_check.proofs.items.site_of.Goals as goal

pub unreachable-requires : goal.unreachable-requires
unreachable-requires c =
    let none = ap (λ (z : SitePlanValue). length z.places) (site_none c.args.plan.now c.args.site c.in-None.ensures) in
    omega (arith, none, c.requires)

pub returns : goal.returns
returns c = site_read c.args.plan.now c.args.site (site_plan_of c.in-Some.found.now) c.in-Some.ensures
