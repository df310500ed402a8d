use Rattle.std.proofs.lemmas.Result.{err_from_is_err_and}
use Rattle.op_outside.specs.Outside.{Rose}
use Rattle.bound_program.specs.Values.{bound_of}
use Rattle.command_words.specs.Refusal.{PrintWeight}
use Rattle.tool_command.specs.ToolAnswers.{PieceAnswers}
use Rattle.job_inputs.proofs.Public.{file_unread, file_answered}
use Rattle.tool_command.proofs.picks.picked.Goals as goal

pub returns-in_err-bytes : goal.returns-in_err-bytes
returns-in_err-bytes g c =
    let p = err_from_is_err_and c.from_residual.result c.from_residual.ensures.1 in
    rw (p.1, p.2) (file_unread (g.F.Shelf.told c.args.shelf.now) (Rose (g.F.Shelf.faults c.args.shelf.now) (g.F.Shelf.faults c.file_of.new.shelf)) PrintWeight c.args.output.now
    (PieceAnswers (bound_of c.args.bound.now) c.args.file.now c.args.earlier) c.args.kept.now c.in_err-bytes.field-0.0 c.in_err-bytes.ensures.err)

pub returns : goal.returns
returns g c =
    file_answered (g.F.Shelf.told c.args.shelf.now) (Rose (g.F.Shelf.faults c.args.shelf.now) (g.F.Shelf.faults c.file_of.new.shelf)) PrintWeight c.args.output.now
    (PieceAnswers (bound_of c.args.bound.now) c.args.file.now c.args.earlier) c.args.kept.now c.file_of.new.kept c.in_ok-bytes.bytes.items c.picked_of.result
    c.in_ok-bytes.ensures.read (rw c.deref.ensures.value at c.picked_of.ensures)
