use Rattle.std.proofs.Common.{◌≡◌, ◌<◌, ℕ, length, take}
use Rattle.lemmas.specs.Below.{row}
use Rattle.schedule_check.specs.Messages.{senders_in}
use Rattle.schedule_check.proofs.plan_orders.messages.senders.Given as goal

abbrev pub invariant-loop-pair : goal.invariant-loop-pair
invariant-loop-pair l = record {
  count : length l.lists.items ≡ l.ranks;
  lists : (r : ℕ) → r < l.ranks → row l.lists.items r ≡ senders_in (take l.pair-index l.pairs) r;
}
