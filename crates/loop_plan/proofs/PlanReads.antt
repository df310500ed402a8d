-- The plan of a loop, read by its number.
use Rattle.std.proofs.Common.{◌≡◌, ℕ, ap, Some, None, nat_eq}
use Rattle.std.specs.Map.{lookup}
use Rattle.loop_plan.specs.declared.types.Plan.{Plan}
use Rattle.loop_plan.specs.Values.{SitePlanValue, plan_of, no_site_plan, or_none, site_plan, entries_of}

-- the plan that is found is the loop's
pub site_read : (p : Plan) (s : ℕ) (found : SitePlanValue) → Some found ≡ lookup (nat_eq s) (entries_of p.sites) → found ≡ site_plan (plan_of p) s
unfolding site_plan
site_read p s found h = ap or_none h

-- where none is found, the loop has none
pub site_none : (p : Plan) (s : ℕ) → None ≡ lookup (nat_eq s) (entries_of p.sites) → no_site_plan ≡ site_plan (plan_of p) s
unfolding site_plan
site_none p s h = ap or_none h
