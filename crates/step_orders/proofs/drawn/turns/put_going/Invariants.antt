use Rattle.std.proofs.Common.{◌≡◌, ◌≤◌, List, length, take}
use Rattle.schedule_steps.specs.declared.step.Step.{Step}
use Rattle.schedule_steps.specs.Drawn.{numbers}
use Rattle.step_orders.specs.Rests.{rests, sent_below, is_sent, can_go}
use Rattle.step_orders.proofs.drawn.turns.put_going.Given as goal

abbrev pub invariant-loop-rank : goal.invariant-loop-rank
invariant-loop-rank l = record {
  room : length l.found ≡ length l.initial.found;
  count : l.count ≤ l.rank;
  found : (tails : List (List Step))
      → take l.count l.found ≡ numbers (λ r. can_go (is_sent (sent_below l.fn.sent)) l.fn.join (rests l.fn.heads tails r)) l.rank;
}
