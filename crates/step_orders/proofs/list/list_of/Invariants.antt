use Rattle.std.proofs.Common.{◌≡◌, ◌++◌, length}
use Rattle.step_orders.proofs.list.list_of.Given as goal

abbrev pub invariant-loop-step : goal.invariant-loop-step
invariant-loop-step g l = record { left : l.list.items ++ g.S.Steps.left l.steps ≡ g.S.Steps.left l.initial.steps }

abbrev pub decreases-loop-step : goal.decreases-loop-step
decreases-loop-step g l = length (g.S.Steps.left l.steps)
