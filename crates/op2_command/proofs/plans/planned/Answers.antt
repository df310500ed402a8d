use Rattle.std.proofs.lemmas.Result.{err_from_is_err_and}
use Rattle.op_outside.specs.Outside.{Rose}
use Rattle.bound_program.specs.Values.{bound_of}
use Rattle.command_words.specs.Values.{options_in, job_in}
use Rattle.job_inputs.specs.Inputs.{cut_by, chosen_of}
use Rattle.op2_command.proofs.Chosen.{state_next, behind_state, state_unread, unchosen, chosen_answered}
use Rattle.op2_command.proofs.plans.planned.Goals as goal

pub state_text_of-requires-clause-next : goal.state_text_of-requires-clause-next
state_text_of-requires-clause-next g c = state_next (options_in c.args.options.now) c.args.kept.now c.requires.next

pub returns-in_err-text : goal.returns-in_err-text
returns-in_err-text g c =
    let p = err_from_is_err_and c.from_residual.result c.from_residual.ensures.1 in
    rw (p.1, p.2) (state_unread (job_in c.args.job) (options_in c.args.options.now) (bound_of c.args.bound) c.requires.fits
    (g.F.Shelf.told c.args.shelf.now) (Rose (g.F.Shelf.faults c.args.shelf.now) (g.F.Shelf.faults c.state_text_of.new.shelf)) c.args.kept.now
    c.in_err-text.field-0.0 c.in_err-text.ensures.err)

pub returns-in_err-chosen : goal.returns-in_err-chosen
returns-in_err-chosen g c =
    let p = err_from_is_err_and c.from_residual-in_err-chosen.result c.from_residual-in_err-chosen.ensures.1 in
    rw (p.1, p.2) (unchosen (job_in c.args.job) (options_in c.args.options.now) (bound_of c.args.bound) c.requires.fits
    (g.F.Shelf.told c.args.shelf.now) (Rose (g.F.Shelf.faults c.args.shelf.now) (g.F.Shelf.faults c.state_text_of.new.shelf)) c.args.kept.now
    c.state_text_of.new.kept c.in_ok-text.text.items c.in_ok-text.ensures.read
    c.in_err-chosen.field-0.0 (rw c.deref.ensures.value at c.in_err-chosen.ensures.err))

pub chosen_answer-requires-clause-next : goal.chosen_answer-requires-clause-next
chosen_answer-requires-clause-next g c κs within =
    behind_state (options_in c.args.options.now) c.args.kept.now c.state_text_of.new.kept c.requires.next c.in_ok-text.ensures.come

pub chosen_answer-requires-clause-start : goal.chosen_answer-requires-clause-start
chosen_answer-requires-clause-start g c κs within =
    c.chosen_programs_start_in_range.ensures (cut_by (options_in c.args.options.now).stretch c.deref.result.now) (bound_of c.args.bound)
    (chosen_of c.in_ok-chosen.chosen) c.requires.start c.in_ok-chosen.ensures.ok

pub returns : goal.returns
returns g c =
    let rest = rw c.in_ok-text.ensures.calm at (rw c.in_ok-text.ensures.told at c.chosen_answer.ensures) in
    chosen_answered (job_in c.args.job) (options_in c.args.options.now) (bound_of c.args.bound) c.requires.fits
    (g.F.Shelf.told c.args.shelf.now) (Rose (g.F.Shelf.faults c.args.shelf.now) (g.F.Shelf.faults c.chosen_answer.new.shelf)) c.args.kept.now
    c.state_text_of.new.kept c.in_ok-text.text.items c.in_ok-text.ensures.read (chosen_of c.in_ok-chosen.chosen) c.chosen_answer.result
    (rw c.deref.ensures.value at c.in_ok-chosen.ensures.ok) c.requires.next c.in_ok-text.ensures.come rest
