use Rattle.std.proofs.Common.{◌≡◌, ◌<◌, ◌∙◌, ℕ, List, [], sym, ap, subst, arith}
use Rattle.std.specs.Prelude.{All}
use Rattle.std.proofs.lemmas.List.{length_push}
use Rattle.loop_plan.specs.declared.types.Pair.{Pair}
use Rattle.loop_plan.specs.declared.types.ItemPlan.{ItemPlan}
use Rattle.loop_plan.specs.Values.{ItemPlanValue, item_plan_of, no_item_plan}
use Rattle.loop_plan.specs.ItemPlans.{plan_in}
use Rattle.schedule_check.specs.declared.plan_orders.messages.Messages.{Messages}
use Rattle.schedule_check.specs.Messages.{HasMessages}
use Rattle.schedule_check.proofs.plan_orders.TableReads.{at_read, both_more}
use Rattle.schedule_check.proofs.plan_orders.messages.item_messages.Goals as goal

pub messages_of-requires : goal.messages_of-requires
messages_of-requires c =
    let items : List ItemPlan = c.args.items.now in
    let k : ℕ = c.loop-item.item in
    let here : plan_in items k ≡ item_plan_of c.index-items-item.result = at_read item_plan_of no_item_plan items k c.index-items-item.result c.loop-item-test.true c.index-items-item.is in
    let pairs : (plan_in items k).pairs ≡ c.deref.result.now = ap (λ (z : ItemPlanValue). z.pairs) here ∙ (ap (λ (z : ItemPlan). z.pairs.items) c.index-items-item.is ∙ sym c.deref.ensures.value) in
    subst (All (λ (q : Pair). (q.from < c.args.ranks) × (q.to < c.args.ranks))) pairs (c.requires k c.loop-item-test.true)

pub loop-item-preserved : goal.loop-item-preserved
loop-item-preserved c =
    let items : List ItemPlan = c.args.items.now in
    let k : ℕ = c.loop-item.item in
    let here : plan_in items k ≡ item_plan_of c.index-items-item.result = at_read item_plan_of no_item_plan items k c.index-items-item.result c.loop-item-test.true c.index-items-item.is in
    let pairs : (plan_in items k).pairs ≡ c.deref.result.now = ap (λ (z : ItemPlanValue). z.pairs) here ∙ (ap (λ (z : ItemPlan). z.pairs.items) c.index-items-item.is ∙ sym c.deref.ensures.value) in
    let xs : List Messages = c.loop-item.messages.items in
    let m : Messages = c.in_ok-messages_of.field-0 in
    rw c.in_ok-push.ensures.items (record {
      count = omega (arith, length_push xs m, c.loop-item.invariant.count);
      messages = both_more (λ (z : Messages). z.receivers.items) [] (λ (z : Messages). z.senders.items) []
          (λ a receivers senders. HasMessages (plan_in items a).pairs c.args.ranks receivers senders) xs m k
          c.loop-item.invariant.count (subst (λ (z : List Pair). HasMessages z c.args.ranks m.receivers.items m.senders.items) (sym pairs) c.in_ok-messages_of.ensures) c.loop-item.invariant.messages;
    })
