use Rattle.std.proofs.Common.{Some}
use Rattle.std.proofs.lemmas.Result.{err_from_is_err_and}
use Rattle.op_outside.specs.Outside.{Rose}
use Rattle.command_words.specs.Refusal.{PrintWeight}
use Rattle.job_inputs.proofs.Public.{file_unread, file_answered}
use Rattle.bound_program.specs.Values.{bound_of}
use Rattle.job_inputs.specs.Plans.{planned_of}
use Rattle.tool_words.specs.Values.{picture_of}
use Rattle.tool_command.specs.ToolAnswers.{GridOver}
use Rattle.tool_command.proofs.pictures.gridded_from.Goals as goal

pub returns-in_err-bytes : goal.returns-in_err-bytes
returns-in_err-bytes g c =
    let p = err_from_is_err_and c.from_residual.result c.from_residual.ensures.1 in
    rw (p.1, p.2) (file_unread (g.F.Shelf.told c.args.shelf.now) (Rose (g.F.Shelf.faults c.args.shelf.now) (g.F.Shelf.faults c.file_of.new.shelf)) PrintWeight c.args.output.now
    (λ bytes. GridOver (picture_of c.args.picture) (bound_of c.args.planned.now.bound) (planned_of c.args.planned.now) (Some bytes))
    c.args.kept.now c.in_err-bytes.field-0.0 c.in_err-bytes.ensures.err)

pub returns : goal.returns
returns g c =
    file_answered (g.F.Shelf.told c.args.shelf.now) (Rose (g.F.Shelf.faults c.args.shelf.now) (g.F.Shelf.faults c.file_of.new.shelf)) PrintWeight c.args.output.now
    (λ bytes. GridOver (picture_of c.args.picture) (bound_of c.args.planned.now.bound) (planned_of c.args.planned.now) (Some bytes))
    c.args.kept.now c.file_of.new.kept c.in_ok-bytes.bytes.items c.gridded_over.result
    c.in_ok-bytes.ensures.read (rw c.deref.ensures.value at c.gridded_over.ensures)
