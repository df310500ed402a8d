use Rattle.std.proofs.Common.{◌≡◌, ◌-◌, ◌+◌, ◌*◌, length, cond}
use Rattle.step_orders.specs.Left.{runs_left}
use Rattle.step_orders.proofs.walks.next_in_runs.Given as goal

abbrev pub invariant-loop-here : goal.invariant-loop-here
invariant-loop-here l = record { left : runs_left l.item l.rank l.runs l.initial.here ≡ runs_left l.item l.rank l.runs l.here }

abbrev pub decreases-loop-here : goal.decreases-loop-here
decreases-loop-here l = 2 * (length l.runs - l.here.run) + cond l.here.ending 0 1
