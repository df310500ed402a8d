use Rattle.std.proofs.Common.{sym, subst, ap₂, ◌∙◌}
use Rattle.bound_program.specs.Values.{bound_of, no_site}
use Rattle.bound_program.specs.Fits.{Fits}
use Rattle.loop_plan.specs.Planned.{PlannedValue}
use Rattle.answers.specs.Answers.{ran}
use Rattle.job_inputs.proofs.Public.{if_ok_weaker}
use Rattle.op2_command.proofs.runs.run_on.Goals as goal

pub run_on_ranks-requires-clause-obey : goal.run_on_ranks-requires-clause-obey
run_on_ranks-requires-clause-obey g c κs within = λ n f lt at. c.requires.obeyed n no_site lt f at

pub returns : goal.returns
returns g c =
    let run = c.in_ok-outcome.ensures in
    let fits = subst (λ (v : PlannedValue). Fits (bound_of v.bound)) c.planned.view_is c.planned.invariant.fits in
    if_ok_weaker c.ran.result _ _
    (λ a e l i. e ∙ ap₂ (ran c.args.task.now.first) (run l i).stop (run l i).out
    ∙ sym (c.runs_answer_on_cells.ensures c.args.task.now.first (bound_of c.args.planned.now.bound) fits _))
    c.ran.ensures
