use Rattle.std.proofs.Common.{sym, subst, ◌∙◌}
use Rattle.bound_program.specs.Values.{bound_of}
use Rattle.loop_plan.specs.Values.{plan_of}
use Rattle.loop_plan.specs.StepOutline.{step_outline}
use Rattle.schedule_check.specs.Mail.{plan_cells}
use Rattle.schedule_check.specs.PlanChecking.{checking}
use Rattle.schedule_check.specs.Whole.{IsUnaccepted}
use Rattle.schedule_check.proofs.TakingAll.{start, take_next, refuse_next, whole_at_end, left_at_end}
use Rattle.schedule_check.proofs.whole.take_all.Goals as goal

-- no step is taken
pub loop-next-init : goal.loop-next-init
loop-next-init g c = record {
  reached = start (bound_of c.args.checker.bound.now) c.args.checker.ranks.now (plan_of c.args.checker.plan.now)
      c.tests_decide.ensures.steps c.standard_is_accepted.ensures (g.S.Steps.left c.args.steps.now)
      (checking (bound_of c.args.checker.bound.now) c.args.checker.ranks.now (plan_of c.args.checker.plan.now) c.args.checker.steps) c.requires;
}

-- a step is refused
pub returns-in-Err-clause-unaccepted : goal.returns-in-Err-clause-unaccepted
returns-in-Err-clause-unaccepted g c =
    refuse_next (bound_of c.args.checker.bound.now) c.args.checker.ranks.now (plan_of c.args.checker.plan.now)
    c.tests_decide.ensures.steps c.standard_is_accepted.ensures (g.S.Steps.left c.args.steps.now)
    (checking (bound_of c.loop-next.checker.bound.now) c.loop-next.checker.ranks.now (plan_of c.loop-next.checker.plan.now) c.loop-next.checker.steps)
    (g.S.Steps.left c.loop-next.steps) c.loop-next.step c.loop-next.invariant.reached
    c.in-Some.next (g.S.Steps.left c.next_step.new.self) c.in-Some.ensures.some c.in-Err.refusal (sym c.take.ensures.answer ∙ c.in-Err.is)
    (c.taken_lists_are_accepted.ensures.refused (step_outline (bound_of c.args.checker.bound.now) c.args.checker.ranks.now (plan_of c.args.checker.plan.now)))

-- a step more is taken
pub loop-next-preserved : goal.loop-next-preserved
loop-next-preserved g c = record {
  reached = take_next (bound_of c.args.checker.bound.now) c.args.checker.ranks.now (plan_of c.args.checker.plan.now)
      c.tests_decide.ensures.steps c.standard_is_accepted.ensures (g.S.Steps.left c.args.steps.now)
      (checking (bound_of c.loop-next.checker.bound.now) c.loop-next.checker.ranks.now (plan_of c.loop-next.checker.plan.now) c.loop-next.checker.steps)
      (g.S.Steps.left c.loop-next.steps) c.loop-next.step c.loop-next.invariant.reached
      c.in-Some.next (g.S.Steps.left c.next_step.new.self) c.in-Some.ensures.some
      (checking (bound_of c.take.new.self.bound.now) c.take.new.self.ranks.now (plan_of c.take.new.self.plan.now) c.take.new.self.steps)
      (sym c.take.ensures.answer ∙ c.in_default-take.is) c.in_default-take.ensures.ok;
}

-- no step is left
pub returns-in-Ok-clause-whole : goal.returns-in-Ok-clause-whole
returns-in-Ok-clause-whole g c =
    whole_at_end (bound_of c.args.checker.bound.now) c.args.checker.ranks.now (plan_of c.args.checker.plan.now)
    c.tests_decide.ensures.steps c.standard_is_accepted.ensures (g.S.Steps.left c.args.steps.now)
    (checking (bound_of c.loop-next.checker.bound.now) c.loop-next.checker.ranks.now (plan_of c.loop-next.checker.plan.now) c.loop-next.checker.steps)
    (g.S.Steps.left c.loop-next.steps) c.loop-next.step c.loop-next.invariant.reached c.in_default.ensures.none.0
    (c.taken_lists_are_accepted.ensures.whole (step_outline (bound_of c.args.checker.bound.now) c.args.checker.ranks.now (plan_of c.args.checker.plan.now)))
    c.in-Ok.peak (sym c.finish.ensures ∙ c.in-Ok.is) (c.loads_give_the_peak.ensures (plan_cells (bound_of c.args.checker.bound.now) c.args.checker.ranks.now (plan_of c.args.checker.plan.now)))

-- a step is left
pub returns-in-Err-finish-clause-unaccepted : goal.returns-in-Err-finish-clause-unaccepted
returns-in-Err-finish-clause-unaccepted g c =
    subst (λ z. IsUnaccepted (bound_of c.args.checker.bound.now) c.args.checker.ranks.now (plan_of c.args.checker.plan.now)
    (g.S.Steps.left c.args.steps.now) z (record { step = c.loop-next.step; refusal = c.in-Err-finish.refusal })) (sym c.in_default.ensures.none.1)
    (left_at_end (bound_of c.args.checker.bound.now) c.args.checker.ranks.now (plan_of c.args.checker.plan.now)
    c.tests_decide.ensures.steps c.standard_is_accepted.ensures (g.S.Steps.left c.args.steps.now)
    (checking (bound_of c.loop-next.checker.bound.now) c.loop-next.checker.ranks.now (plan_of c.loop-next.checker.plan.now) c.loop-next.checker.steps)
    (g.S.Steps.left c.loop-next.steps) c.loop-next.step c.loop-next.invariant.reached c.in_default.ensures.none.0
    (c.taken_lists_are_accepted.ensures.whole (step_outline (bound_of c.args.checker.bound.now) c.args.checker.ranks.now (plan_of c.args.checker.plan.now)))
    c.in-Err-finish.refusal (sym c.finish.ensures ∙ c.in-Err-finish.is))
