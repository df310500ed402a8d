-- The plan of an item, read by its number.
use Rattle.std.proofs.Common.{◌≡◌, ℕ, ◌<◌, sym, ap, ◌∙◌, length, get_or}
use Rattle.std.proofs.lemmas.List.{get_or-map}
use Rattle.loop_plan.specs.declared.types.ItemPlan.{ItemPlan}
use Rattle.loop_plan.specs.declared.types.Plan.{Plan}
use Rattle.loop_plan.specs.Values.{item_plan_of, plan_of, no_item_plan, item_plan}

pub item_read : (p : Plan) (k : ℕ) (i : ItemPlan) → k < length p.items.items → i ≡ get_or p.items.items k i → item_plan_of i ≡ item_plan (plan_of p) k
unfolding item_plan
item_read p k i l e = ap item_plan_of e ∙ sym (get_or-map item_plan_of p.items.items k i no_item_plan l)
