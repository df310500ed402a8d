use Rattle.std.proofs.Common.{◌<◌, ap, sym, ◌∙◌, arith, length}
use Rattle.std.proofs.lemmas.List.{get_or-map, length-map}
use Rattle.loop_plan.specs.declared.types.ItemPlan.{ItemPlan}
use Rattle.loop_plan.specs.Values.{item_plan_of, ItemPlanValue, item_plan, no_item_plan}
use Rattle.rank_program.proofs.exchanges.exchange_of.Goals as goal

pub returns : goal.returns
unfolding item_plan
returns c =
    let here : c.args.item < length c.args.plan.now.items.items = omega (arith, c.requires, length-map c.args.plan.now.items.items item_plan_of) in
    c.deref.ensures.value ∙ ap (λ (i : ItemPlan). i.exchange.items) c.index.ensures
    ∙ ap (λ (x : ItemPlanValue). x.exchange) (sym (get_or-map item_plan_of c.args.plan.now.items.items c.args.item c.index.result.now no_item_plan here))
