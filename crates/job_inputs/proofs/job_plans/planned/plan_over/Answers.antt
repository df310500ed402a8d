use Rattle.std.proofs.lemmas.Result.{err_from_is_err_and}
use Rattle.bound_program.specs.Values.{bound_of}
use Rattle.command_words.specs.Values.{blocks_in}
use Rattle.job_inputs.specs.Inputs.{colouring_by}
use Rattle.job_inputs.proofs.job_plans.Planning.{spread, fit_together, unplanned}
use Rattle.job_inputs.proofs.job_plans.planned.plan_over.Goals as goal

pub plan_by-requires-clause-ranks : goal.plan_by-requires-clause-ranks
plan_by-requires-clause-ranks g c =
    spread (bound_of c.args.bound.now).mesh c.args.owners c.args.perms c.in_ok-distribution.distribution c.requires.owners c.requires.perms c.in_ok-distribution.ensures

pub returns-in_err-plan-clause-err : goal.returns-in_err-plan-clause-err
returns-in_err-plan-clause-err g c =
    let p = err_from_is_err_and c.from_residual-in_err-plan.result c.from_residual-in_err-plan.ensures.1 in
    rw (p.1, p.2) (unplanned (colouring_by (blocks_in c.args.asked.now.blocks) c.args.asked.now.text.now) (bound_of c.args.bound.now) c.args.owners c.args.perms
    c.in_ok-distribution.distribution c.in_err-plan.field-0.0 c.in_ok-distribution.ensures c.in_err-plan.ensures.err)

pub returns-clause-ok : goal.returns-clause-ok
returns-clause-ok g c = (c.in_ok-distribution.ensures, c.in_ok-plan.ensures.ok)

pub invariant_of-result : goal.invariant_of-result
invariant_of-result g c =
    fit_together c.args.bound.now c.args.owners c.args.perms c.in_ok-distribution.distribution c.in_ok-plan.plan
    c.requires.fits c.requires.owners c.requires.perms c.in_ok-distribution.ensures c.in_ok-plan.ensures.ok.proper
