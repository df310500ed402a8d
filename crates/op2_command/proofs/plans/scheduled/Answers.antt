use Rattle.std.proofs.Common.{sym, ap}
use Rattle.std.proofs.lemmas.Result.{err_from_is_err_and}
use Rattle.op_outside.specs.Outside.{Rose}
use Rattle.loop_plan.specs.Planned.{outline_of}
use Rattle.schedule_steps.specs.Standard.{standard}
use Rattle.command_words.specs.Words.{group_of}
use Rattle.command_words.specs.Values.{options_in, job_in, schedule_in}
use Rattle.job_inputs.specs.Plans.{planned_of}
use Rattle.op2_command.specs.Chains.{chosen_in}
use Rattle.op2_command.proofs.Planned.{standard_answered, drawn_answered, schedule_unread, text_answered}
use Rattle.op2_command.proofs.plans.scheduled.Goals as goal

pub returns-in_err-bytes-in-Written : goal.returns-in_err-bytes-in-Written
returns-in_err-bytes-in-Written g c =
    let p = err_from_is_err_and c.from_residual-in_err-bytes-in-Written.result c.from_residual-in_err-bytes-in-Written.ensures.1 in
    rw (p.1, p.2) (schedule_unread (job_in c.args.task.now.job) (options_in c.args.task.now.options.now) (chosen_in c.args.task.now.first c.args.planned.now)
    (planned_of c.args.planned.now) (g.F.Shelf.told c.args.shelf.now)
    (Rose (g.F.Shelf.faults c.args.shelf.now) (g.F.Shelf.faults c.file_of.new.shelf)) c.args.kept.now c.in-Written.name.now c.in_err-bytes-in-Written.field-0.0
    (ap schedule_in c.in-Written.is) c.in_err-bytes-in-Written.ensures.err)

pub returns-in_ok-planned_answer-in-Standard : goal.returns-in_ok-planned_answer-in-Standard
returns-in_ok-planned_answer-in-Standard g c =
    let p = planned_of c.args.planned.now in
    let o = options_in c.args.task.now.options.now in
    let shape = outline_of c.args.planned.now in
    standard_answered (job_in c.args.task.now.job) o (chosen_in c.args.task.now.first c.args.planned.now) p (g.F.Shelf.told c.args.shelf.now)
    (Rose (g.F.Shelf.faults c.args.shelf.now) (g.F.Shelf.faults c.args.shelf.now)) c.args.kept.now c.in_ok-planned_answer-in-Standard.field-0
    (ap schedule_in c.in-Standard.is)
    (c.in_ok-planned_answer-in-Standard.ensures (standard shape (group_of o)) (ap (standard shape) (sym c.group-group.ensures)))

pub returns-in_ok-planned_answer-in-Drawn : goal.returns-in_ok-planned_answer-in-Drawn
returns-in_ok-planned_answer-in-Drawn g c =
    let p = planned_of c.args.planned.now in
    let o = options_in c.args.task.now.options.now in
    let shape = outline_of c.args.planned.now in
    let drawn = c.drawn_exists.ensures shape (group_of o) c.in-Drawn.seed in
    drawn_answered (job_in c.args.task.now.job) o (chosen_in c.args.task.now.first c.args.planned.now) p (g.F.Shelf.told c.args.shelf.now)
    (Rose (g.F.Shelf.faults c.args.shelf.now) (g.F.Shelf.faults c.args.shelf.now)) c.args.kept.now c.in_ok-planned_answer-in-Drawn.field-0
    c.in-Drawn.seed drawn.0 (ap schedule_in c.in-Drawn.is) drawn.1
    (c.in_ok-planned_answer-in-Drawn.ensures drawn.0 (rw c.group-group-in-Drawn.ensures drawn.1))

pub returns-in_ok-bytes-in-Written : goal.returns-in_ok-bytes-in-Written
returns-in_ok-bytes-in-Written g c =
    text_answered (job_in c.args.task.now.job) (options_in c.args.task.now.options.now) (chosen_in c.args.task.now.first c.args.planned.now)
    (planned_of c.args.planned.now) (g.F.Shelf.told c.args.shelf.now)
    (Rose (g.F.Shelf.faults c.args.shelf.now) (g.F.Shelf.faults c.file_of.new.shelf)) c.args.kept.now c.in-Written.name.now c.deref.result.now
    c.file_of.new.kept c.by_text.result (ap schedule_in c.in-Written.is) (rw c.deref.ensures.value c.in_ok-bytes-in-Written.ensures.read) c.by_text.ensures

pub file_of-requires-clause-next : goal.file_of-requires-clause-next
file_of-requires-clause-next g c = rw c.in-Written.is at c.requires.next
