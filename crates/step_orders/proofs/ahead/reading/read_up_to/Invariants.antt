use Rattle.std.proofs.Common.{◌≡◌, ◌++◌, length}
use Rattle.std.specs.Prelude.{vec_capacity}
use Rattle.step_orders.proofs.ahead.reading.read_up_to.Given as goal

abbrev pub invariant-loop-steps : goal.invariant-loop-steps
invariant-loop-steps g l = record {
  all : l.held.items ++ g.S.Steps.left l.steps ≡ l.fn.held.items ++ g.S.Steps.left l.fn.steps;
  room : vec_capacity l.held ≡ vec_capacity l.fn.held;
}

abbrev pub decreases-loop-steps : goal.decreases-loop-steps
decreases-loop-steps g l = length (g.S.Steps.left l.steps)
