use Rattle.std.proofs.Common.{◌≡◌, ◌-◌, ◌++◌, ℕ, length, drop}
use Rattle.std.specs.Prelude.{vec_capacity}
use Rattle.step_orders.specs.Alone.{alone}
use Rattle.step_orders.specs.Runs.{each_alone}
use Rattle.step_orders.specs.Left.{in_runs}
use Rattle.step_orders.proofs.alone_walks.put_elements.Given as goal

abbrev pub invariant-loop-at : goal.invariant-loop-at
invariant-loop-at l = record {
  alone : (k r : ℕ) → in_runs k r (drop l.from (each_alone l.elements)) ≡ alone k r l.places.items ++ in_runs k r (drop l.at (each_alone l.elements));
  room : vec_capacity l.places ≡ vec_capacity l.initial.places;
}

abbrev pub decreases-loop-at : goal.decreases-loop-at
decreases-loop-at l = length l.elements - l.at
