use Rattle.std.proofs.Common.{◌≡◌, refl, sym, ap, subst, ◌∙◌}
use Rattle.std.proofs.lemmas.Result.{err_from_is_err_and}
use Rattle.schedule_steps.specs.Steps.{Accepted}
use Rattle.loop_plan.specs.Planned.{outline_of}
use Rattle.answers.specs.Judgements.{ByText, steps_in}
use Rattle.command_words.specs.Values.{options_in, job_in}
use Rattle.job_inputs.specs.Plans.{planned_of}
use Rattle.command_words.specs.Halts.{answer_of}
use Rattle.op2_command.specs.Chains.{chosen_in}
use Rattle.op2_command.proofs.Planned.{steps_answered, text_refused_by, step_refused_by}
use Rattle.op2_command.proofs.plans.by_text.Goals as goal

pub returns-in_err-lines : goal.returns-in_err-lines
returns-in_err-lines g c =
    let p = err_from_is_err_and c.from_residual.result c.from_residual.ensures.1 in
    rw (p.1, p.2) (text_refused_by (job_in c.args.task.now.job) (options_in c.args.task.now.options.now) (chosen_in c.args.task.now.first c.args.planned.now)
    (planned_of c.args.planned.now) c.args.bytes.now c.in_err-lines.field-0.0 c.in_err-lines.ensures.err)

pub returns-in_err-steps : goal.returns-in_err-steps
returns-in_err-steps g c =
    let p = err_from_is_err_and c.from_residual-in_err-steps.result c.from_residual-in_err-steps.ensures.1 in
    rw (p.1, p.2) (step_refused_by (job_in c.args.task.now.job) (options_in c.args.task.now.options.now) (chosen_in c.args.task.now.first c.args.planned.now)
    (planned_of c.args.planned.now) c.args.bytes.now c.in_ok-lines.lines.items c.end_line.result c.in_err-steps.field-0.0
    c.in_ok-lines.ensures.ok c.end_line.ensures (rw c.deref.ensures.value at c.in_err-steps.ensures.err))

pub returns : goal.returns
returns g c =
    let spelled = c.in_ok-lines.lines.items in
    let steps : c.deref-2.result.now ≡ steps_in spelled = c.deref-2.ensures.value ∙ (c.in_ok-steps.ensures.steps ∙ ap steps_in c.deref.ensures.value) in
    let accepted : Accepted (outline_of c.args.planned.now) c.deref-2.result.now =
    subst (Accepted (outline_of c.args.planned.now)) (ap steps_in c.deref.ensures.value ∙ sym steps) c.in_ok-steps.ensures.whole.accepted in
    steps_answered (job_in c.args.task.now.job) (options_in c.args.task.now.options.now) (chosen_in c.args.task.now.first c.args.planned.now) (planned_of c.args.planned.now) (ByText c.args.bytes.now)
    c.deref-2.result.now (answer_of c.in_ok-planned_answer.field-0) (spelled, c.in_ok-lines.ensures.ok, steps, accepted)
    (c.in_ok-planned_answer.ensures c.deref-2.result.now refl)
