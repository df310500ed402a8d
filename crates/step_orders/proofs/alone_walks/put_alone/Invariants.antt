use Rattle.std.proofs.Common.{◌≡◌, ◌-◌, ◌++◌, ℕ, length, drop}
use Rattle.std.specs.Prelude.{vec_capacity}
use Rattle.step_orders.specs.Alone.{alone}
use Rattle.step_orders.specs.Left.{in_runs}
use Rattle.step_orders.proofs.alone_walks.put_alone.Given as goal

abbrev pub invariant-loop-run : goal.invariant-loop-run
invariant-loop-run l = record {
  alone : (k r : ℕ) → in_runs k r (drop l.from l.runs) ≡ alone k r l.places.items ++ in_runs k r (drop l.run l.runs);
  room : vec_capacity l.places ≡ vec_capacity l.initial.places;
}

abbrev pub decreases-loop-run : goal.decreases-loop-run
decreases-loop-run l = length l.runs - l.run
