use Rattle.std.proofs.Common.{◌++◌}
use Rattle.std.proofs.lemmas.Result.{err_from_is_err_and}
use Rattle.op_outside.specs.Outside.{Rose}
use Rattle.bound_program.specs.Values.{bound_of}
use Rattle.command_words.specs.Words.{names_by, names_in_blocks}
use Rattle.command_words.specs.Values.{options_in}
use Rattle.job_inputs.proofs.Public.{next_first, next_then, planning_halted, planning_answered}
use Rattle.job_inputs.specs.Plans.{planned_of}
use Rattle.tool_words.specs.Values.{plan_job_of}
use Rattle.tool_command.specs.ToolAnswers.{OnPlanned}
use Rattle.tool_command.specs.Endings.{names_for_plan}
use Rattle.tool_command.proofs.planned.on_bound_plan.Goals as goal

pub planned_on-requires-clause-next : goal.planned_on-requires-clause-next
planned_on-requires-clause-next g c =
    next_first (names_by (options_in c.args.options.now).parting ++ names_in_blocks (options_in c.args.options.now).blocks) (names_for_plan (plan_job_of c.args.job))
    c.args.kept.now c.requires.next

pub returns-in_err-planned : goal.returns-in_err-planned
returns-in_err-planned g c =
    let p = err_from_is_err_and c.from_residual.result c.from_residual.ensures.1 in
    rw (p.1, p.2) (planning_halted (OnPlanned (plan_job_of c.args.job) (bound_of c.args.bound.now)) (options_in c.args.options.now) (bound_of c.args.bound.now) c.requires.fits
    (g.F.Shelf.told c.args.shelf.now) (Rose (g.F.Shelf.faults c.args.shelf.now) (g.F.Shelf.faults c.planned_on.new.shelf)) c.args.kept.now
    c.in_err-planned.field-0.0 c.in_err-planned.ensures.err)

pub on_planned-requires-clause-next : goal.on_planned-requires-clause-next
on_planned-requires-clause-next g c =
    next_then (names_by (options_in c.args.options.now).parting ++ names_in_blocks (options_in c.args.options.now).blocks) (names_for_plan (plan_job_of c.args.job))
    c.args.kept.now c.planned_on.new.kept c.requires.next c.in_ok-planned.ensures.come

pub returns : goal.returns
returns g c =
    let rest = rw c.in_ok-planned.ensures.of at (rw c.in_ok-planned.ensures.calm at (rw c.in_ok-planned.ensures.told at c.on_planned.ensures)) in
    planning_answered (OnPlanned (plan_job_of c.args.job) (bound_of c.args.bound.now)) (options_in c.args.options.now) (bound_of c.args.bound.now) c.requires.fits
    (g.F.Shelf.told c.args.shelf.now) (Rose (g.F.Shelf.faults c.args.shelf.now) (g.F.Shelf.faults c.on_planned.new.shelf)) c.args.kept.now
    c.planned_on.new.kept (planned_of c.in_ok-planned.planned) c.on_planned.result c.in_ok-planned.ensures.ok
    (next_first (names_by (options_in c.args.options.now).parting ++ names_in_blocks (options_in c.args.options.now).blocks) (names_for_plan (plan_job_of c.args.job))
    c.args.kept.now c.requires.next)
    c.in_ok-planned.ensures.come rest
