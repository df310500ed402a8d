use Rattle.std.proofs.Common.{◌≡◌, ◌++◌, length}
use Rattle.std.specs.Prelude.{vec_capacity}
use Rattle.step_orders.proofs.ahead.reading.read_begins.Given as goal

abbrev pub invariant-loop-held : goal.invariant-loop-held
invariant-loop-held g l = record {
  all : l.held.items ++ g.S.Steps.left l.steps ≡ l.fn.held.items ++ g.S.Steps.left l.fn.steps;
  begun : l.begun ≡ length l.held.items;
  room : vec_capacity l.held ≡ vec_capacity l.fn.held;
}

abbrev pub decreases-loop-held : goal.decreases-loop-held
decreases-loop-held g l = length (g.S.Steps.left l.steps)
