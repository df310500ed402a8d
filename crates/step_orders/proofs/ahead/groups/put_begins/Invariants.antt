use Rattle.std.proofs.Common.{◌≡◌, ◌-◌, ◌≤◌, length, take}
use Rattle.std.specs.Prelude.{vec_capacity}
use Rattle.step_orders.specs.Left.{begins}
use Rattle.step_orders.proofs.ahead.groups.put_begins.Given as goal

abbrev pub invariant-loop-at : goal.invariant-loop-at
invariant-loop-at l = record {
  all : take l.at l.steps ≡ begins l.item l.rank l.places.items;
  count : length l.places.items ≡ l.at;
  within : l.at ≤ length l.steps;
  room : vec_capacity l.places ≡ vec_capacity l.initial.places;
}

abbrev pub decreases-loop-at : goal.decreases-loop-at
decreases-loop-at l = length l.steps - l.at
