use Rattle.std.proofs.Common.{◌≡◌, ◌-◌, ◌≤◌, length, take}
use Rattle.step_orders.specs.Left.{ends}
use Rattle.step_orders.proofs.ahead.groups.are_ends.Given as goal

abbrev pub invariant-loop-at : goal.invariant-loop-at
invariant-loop-at l = record {
  all : take l.at l.steps ≡ ends l.item l.rank (take l.at l.places);
  within : l.at ≤ length l.steps;
}

abbrev pub decreases-loop-at : goal.decreases-loop-at
decreases-loop-at l = length l.steps - l.at
