use Rattle.std.proofs.lemmas.Result.{err_from_is_err_and}
use Rattle.op_outside.specs.Outside.{Rose}
use Rattle.command_words.specs.Refusal.{MeshBytes}
use Rattle.op2_command.specs.Chains.{RewriteAnswers}
use Rattle.job_inputs.proofs.Public.{sole_unread, sole_answered}
use Rattle.op2_command.proofs.answered.converted.Goals as goal

pub returns-in_err-text : goal.returns-in_err-text
returns-in_err-text g c =
    let p = err_from_is_err_and c.from_residual.result c.from_residual.ensures.1 in
    rw (p.1, p.2) (sole_unread (g.F.Shelf.told c.args.shelf.now) (Rose (g.F.Shelf.faults c.args.shelf.now) (g.F.Shelf.faults c.sole_file.new.shelf)) MeshBytes c.args.mesh.now
    (RewriteAnswers c.args.form) c.some_files_are_as_seen.ensures c.in_err-text.field-0.0 c.in_err-text.ensures.err)

pub returns : goal.returns
returns g c =
    sole_answered (g.F.Shelf.told c.args.shelf.now) (Rose (g.F.Shelf.faults c.args.shelf.now) (g.F.Shelf.faults c.sole_file.new.shelf)) MeshBytes c.args.mesh.now
    (RewriteAnswers c.args.form) c.some_files_are_as_seen.ensures c.deref.result.now c.rewritten.result (rw c.deref.ensures.value c.in_ok-text.ensures.read) c.rewritten.ensures
