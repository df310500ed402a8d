use Rattle.std.proofs.Common.{◌≡◌, ◌<◌, ℕ, length}
use Rattle.loop_plan.specs.ItemPlans.{plan_in}
use Rattle.schedule_check.specs.Messages.{HasMessages, receiver_lists, sender_lists}
use Rattle.schedule_check.proofs.plan_orders.messages.item_messages.Given as goal

abbrev pub invariant-loop-item : goal.invariant-loop-item
invariant-loop-item l = record {
  count : length l.messages.items ≡ l.item;
  messages : (k : ℕ) → k < l.item → HasMessages (plan_in l.items k).pairs l.ranks (receiver_lists l.messages.items k) (sender_lists l.messages.items k);
}
