use Rattle.std.proofs.Common.{◌∙◌, ap}
use Rattle.loop_plan.specs.Values.{SitePlanValue, site_plan_of}
use Rattle.loop_plan.proofs.Public.{site_read, site_none}
use Rattle.plan_counts.proofs.loops.colours_of.Goals as goal

pub returns-in-Some : goal.returns-in-Some
returns-in-Some c = c.deref.ensures.value ∙ ap (λ (z : SitePlanValue). z.colours) (site_read c.args.plan.now c.args.site (site_plan_of c.in-Some.found.now) c.in-Some.ensures)

pub returns-in-None : goal.returns-in-None
returns-in-None c = ap (λ (z : SitePlanValue). z.colours) (site_none c.args.plan.now c.args.site c.in-None.ensures)
