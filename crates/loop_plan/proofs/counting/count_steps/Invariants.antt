use Rattle.std.proofs.Common.{◌≡◌}
use Rattle.bound_program.specs.Values.{bound_of}
use Rattle.loop_plan.specs.StepCounts.{steps_of_plans}
use Rattle.loop_plan.proofs.counting.count_steps.Given as goal

abbrev pub invariant-loop-item : goal.invariant-loop-item
invariant-loop-item l = l.steps ≡ steps_of_plans (bound_of l.bound) l.items l.totals l.item
