use Rattle.bound_program.specs.Values.{bound_of}
use Rattle.loop_plan.specs.Values.{plan_of}
use Rattle.job_inputs.proofs.job_plans.ToldPlans.{told_planned, told_refused}
use Rattle.job_inputs.proofs.job_plans.colourings.told_plan.Goals as goal

pub returns-in-Ok-clause-ok : goal.returns-in-Ok-clause-ok
returns-in-Ok-clause-ok c =
    told_planned (bound_of c.args.bound.now) c.args.found.now.ranks.items c.args.text.now (plan_of c.in-Ok.plan)
    (rw c.deref.ensures.value at c.in-Ok.ensures.plan) (rw c.deref.ensures.value at c.in-Ok.ensures.steps) c.in-Ok.ensures.few

pub returns-in-Err-clause-err : goal.returns-in-Err-clause-err
returns-in-Err-clause-err c =
    told_refused (bound_of c.args.bound.now) c.args.found.now.ranks.items c.args.text.now c.in-Err.refusal c.uncertified.result
    (rw c.deref.ensures.value at c.in-Err.ensures.refused) c.uncertified.ensures
