use Rattle.std.proofs.Common.{length}
use Rattle.bound_program.specs.Values.{bound_of}
use Rattle.loop_plan.specs.Values.{plan_of}
use Rattle.schedule_check.specs.PlanChecking.{checking}
use Rattle.schedule_check.proofs.TakingAll.{Reached}
use Rattle.schedule_check.proofs.whole.take_all.Given as goal

abbrev pub invariant-loop-next : goal.invariant-loop-next
invariant-loop-next g l = record {
  reached : Reached (bound_of l.initial.checker.bound.now) l.initial.checker.ranks.now (plan_of l.initial.checker.plan.now)
      (g.S.Steps.left l.initial.steps) (g.S.Steps.left l.steps) l.step
      (checking (bound_of l.checker.bound.now) l.checker.ranks.now (plan_of l.checker.plan.now) l.checker.steps);
}

abbrev pub decreases-loop-next : goal.decreases-loop-next
decreases-loop-next g l = length (g.S.Steps.left l.steps)
