use Rattle.std.proofs.lemmas.Result.{err_from_is_err_and}
use Rattle.op_outside.specs.Outside.{Rose}
use Rattle.command_words.specs.Refusal.{MeshBytes}
use Rattle.job_inputs.proofs.Public.{sole_unread, sole_answered}
use Rattle.tool_command.specs.ToolAnswers.{ConversionAnswers}
use Rattle.tool_command.proofs.gmsh.from_gmsh_file.Goals as goal

pub returns-in_err-bytes : goal.returns-in_err-bytes
returns-in_err-bytes g c =
    let p = err_from_is_err_and c.from_residual.result c.from_residual.ensures.1 in
    rw (p.1, p.2) (sole_unread (g.F.Shelf.told c.args.shelf.now) (Rose (g.F.Shelf.faults c.args.shelf.now) (g.F.Shelf.faults c.sole_file.new.shelf)) MeshBytes c.args.file.now
    (ConversionAnswers c.args.dim c.args.scale c.args.writes_source) c.some_files_are_as_seen.ensures c.in_err-bytes.field-0.0 c.in_err-bytes.ensures.err)

pub returns : goal.returns
returns g c =
    sole_answered (g.F.Shelf.told c.args.shelf.now) (Rose (g.F.Shelf.faults c.args.shelf.now) (g.F.Shelf.faults c.sole_file.new.shelf)) MeshBytes c.args.file.now
    (ConversionAnswers c.args.dim c.args.scale c.args.writes_source) c.some_files_are_as_seen.ensures c.deref.result.now c.converted.result
    (rw c.deref.ensures.value c.in_ok-bytes.ensures.read) c.converted.ensures
