use Rattle.std.proofs.Common.{◌++◌, Ok, sym, subst}
use Rattle.std.proofs.lemmas.Result.{err_from_is_err_and}
use Rattle.op_outside.specs.Outside.{Rose}
use Rattle.bound_program.specs.declared.programs.Bound.{Bound}
use Rattle.bound_program.specs.Values.{bound_of}
use Rattle.run_model.specs.Ranges.{StartsInRange}
use Rattle.command_words.specs.Words.{names_by, names_in_blocks, names_at}
use Rattle.command_words.specs.Values.{options_in, job_in}
use Rattle.answers.specs.Judgements.{AccessesAre}
use Rattle.job_inputs.specs.Inputs.{chosen_of}
use Rattle.job_inputs.proofs.Public.{next_first, next_then, planning_halted, planning_answered}
use Rattle.job_inputs.specs.Plans.{planned_of}
use Rattle.op2_command.specs.Chains.{ScheduleAnswers}
use Rattle.op2_command.proofs.plans.chosen_answer.Goals as goal

pub planned_on-requires-clause-next : goal.planned_on-requires-clause-next
planned_on-requires-clause-next g c =
    next_first (names_by (options_in c.args.options.now).parting ++ names_in_blocks (options_in c.args.options.now).blocks) (names_at (options_in c.args.options.now).schedule)
    c.args.kept.now c.requires.next

pub returns-in_err-planned : goal.returns-in_err-planned
returns-in_err-planned g c =
    let p = err_from_is_err_and c.from_residual.result c.from_residual.ensures.1 in
    rw (p.1, p.2) (planning_halted (λ files p. ScheduleAnswers (job_in c.args.job) (options_in c.args.options.now) (chosen_of c.args.chosen.now) p files)
    (options_in c.args.options.now) (bound_of c.args.chosen.now.bound) c.requires.fits
    (g.F.Shelf.told c.args.shelf.now) (Rose (g.F.Shelf.faults c.args.shelf.now) (g.F.Shelf.faults c.planned_on.new.shelf)) c.args.kept.now
    c.in_err-planned.field-0.0 c.in_err-planned.ensures.err)

pub scheduled-requires-clause-next : goal.scheduled-requires-clause-next
scheduled-requires-clause-next g c κs within =
    next_then (names_by (options_in c.args.options.now).parting ++ names_in_blocks (options_in c.args.options.now).blocks) (names_at (options_in c.args.options.now).schedule)
    c.args.kept.now c.planned_on.new.kept c.requires.next c.in_ok-planned.ensures.come

pub scheduled-requires-clause-obeyed : goal.scheduled-requires-clause-obeyed
scheduled-requires-clause-obeyed g c κs within =
    subst (λ (b : Bound). AccessesAre (bound_of b) (Ok tt)) (sym c.in_ok-planned.ensures.of) c.requires.obeyed

pub scheduled-requires-clause-start : goal.scheduled-requires-clause-start
scheduled-requires-clause-start g c κs within =
    subst (λ (b : Bound). StartsInRange (bound_of b)) (sym c.in_ok-planned.ensures.of) c.requires.start

pub returns : goal.returns
returns g c =
    let rest = rw c.in_ok-planned.ensures.of at (rw c.in_ok-planned.ensures.calm at (rw c.in_ok-planned.ensures.told at c.scheduled.ensures)) in
    planning_answered (λ files p. ScheduleAnswers (job_in c.args.job) (options_in c.args.options.now) (chosen_of c.args.chosen.now) p files)
    (options_in c.args.options.now) (bound_of c.args.chosen.now.bound) c.requires.fits
    (g.F.Shelf.told c.args.shelf.now) (Rose (g.F.Shelf.faults c.args.shelf.now) (g.F.Shelf.faults c.scheduled.new.shelf)) c.args.kept.now
    c.planned_on.new.kept (planned_of c.in_ok-planned.planned) c.scheduled.result c.in_ok-planned.ensures.ok
    (next_first (names_by (options_in c.args.options.now).parting ++ names_in_blocks (options_in c.args.options.now).blocks) (names_at (options_in c.args.options.now).schedule)
    c.args.kept.now c.requires.next)
    c.in_ok-planned.ensures.come rest
