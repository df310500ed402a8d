use Rattle.std.proofs.Common.{[], ◌∷◌}
use Rattle.std.proofs.lemmas.Result.{err_from_is_err_and}
use Rattle.op_outside.specs.Outside.{Rose}
use Rattle.c_tree.specs.View.{program_of}
use Rattle.bound_program.specs.Values.{bound_of}
use Rattle.job_inputs.proofs.Chained.{if_ok_weaker, if_err_weaker, still_named}
use Rattle.job_inputs.proofs.BoundFiles.{source_refused, tree_refused_over, types_refused_over, mesh_refused_over, text_refused_over, bound_found}
use Rattle.job_inputs.proofs.programs.bound_files.Goals as goal

pub file_of-requires-clause-next : goal.file_of-requires-clause-next
file_of-requires-clause-next g c = (c.args.mesh.now ∷ c.requires.next.0, c.requires.next.1)

pub returns-in_err-bytes-clause-err : goal.returns-in_err-bytes-clause-err
returns-in_err-bytes-clause-err g c =
    let p = err_from_is_err_and c.from_residual.result c.from_residual.ensures.1 in
    rw (p.1, p.2) (source_refused (g.F.Shelf.told c.args.shelf.now) (Rose (g.F.Shelf.faults c.args.shelf.now) (g.F.Shelf.faults c.file_of.new.shelf))
    c.args.source.now c.args.mesh.now c.args.kept.now c.in_err-bytes.field-0.0 c.in_err-bytes.ensures.err)

pub returns-in_err-program-clause-err : goal.returns-in_err-program-clause-err
returns-in_err-program-clause-err g c =
    let p = err_from_is_err_and c.from_residual-in_err-program.result c.from_residual-in_err-program.ensures.1 in
    rw (p.1, p.2) (tree_refused_over (g.F.Shelf.told c.args.shelf.now) (Rose (g.F.Shelf.faults c.args.shelf.now) (g.F.Shelf.faults c.file_of.new.shelf))
    c.args.source.now c.args.mesh.now c.args.kept.now c.file_of.new.kept c.deref.result.now (rw c.deref.ensures.value c.in_ok-bytes.ensures.read)
    c.in_err-program.field-0.0 c.in_err-program.ensures.err)

pub returns-in_err-types-clause-err : goal.returns-in_err-types-clause-err
returns-in_err-types-clause-err g c =
    let p = err_from_is_err_and c.from_residual-in_err-types.result c.from_residual-in_err-types.ensures.1 in
    rw (p.1, p.2) (types_refused_over (g.F.Shelf.told c.args.shelf.now) (Rose (g.F.Shelf.faults c.args.shelf.now) (g.F.Shelf.faults c.file_of.new.shelf))
    c.args.source.now c.args.mesh.now c.args.kept.now c.file_of.new.kept c.deref.result.now (rw c.deref.ensures.value c.in_ok-bytes.ensures.read)
    (program_of c.in_ok-program.program) c.in_ok-program.ensures.ok c.in_err-types.field-0.0 c.in_err-types.ensures.err)

pub returns-in_err-text-clause-err : goal.returns-in_err-text-clause-err
returns-in_err-text-clause-err g c =
    let p = err_from_is_err_and c.from_residual-in_err-text.result c.from_residual-in_err-text.ensures.1 in
    let unread = rw c.in_ok-bytes.ensures.calm at (rw c.in_ok-bytes.ensures.told at c.in_err-text.ensures.err) in
    rw (p.1, p.2) (mesh_refused_over (g.F.Shelf.told c.args.shelf.now) (Rose (g.F.Shelf.faults c.args.shelf.now) (g.F.Shelf.faults c.file_of-2.new.shelf))
    c.args.source.now c.args.mesh.now c.args.kept.now c.file_of.new.kept c.deref.result.now (rw c.deref.ensures.value c.in_ok-bytes.ensures.read)
    (program_of c.in_ok-program.program) c.in_ok-program.ensures.ok c.in_ok-types.types c.in_ok-types.ensures.ok c.in_err-text.field-0.0
    (still_named (c.args.source.now ∷ []) c.args.kept.now c.file_of.new.kept (c.args.mesh.now ∷ c.requires.next.0, c.requires.next.1) c.in_ok-bytes.ensures.come)
    unread)

pub returns-clause-ok : goal.returns-clause-ok
returns-clause-ok g c =
    let there = rw c.in_ok-bytes.ensures.told at c.in_ok-text.ensures.read in
    if_ok_weaker c.bound_over.result _ _
    (λ b over. bound_found (g.F.Shelf.told c.args.shelf.now) (Rose (g.F.Shelf.faults c.args.shelf.now) (g.F.Shelf.faults c.file_of-2.new.shelf))
    c.args.source.now c.args.mesh.now c.args.kept.now c.file_of.new.kept c.deref.result.now (rw c.deref.ensures.value c.in_ok-bytes.ensures.read)
    (program_of c.in_ok-program.program) c.in_ok-program.ensures.ok c.in_ok-types.types c.in_ok-types.ensures.ok c.file_of-2.new.kept c.deref-2.result.now
    (rw c.deref-2.ensures.value there) (bound_of b) over)
    c.bound_over.ensures.ok

pub returns-clause-err : goal.returns-clause-err
returns-clause-err g c =
    let there = rw c.in_ok-bytes.ensures.told at c.in_ok-text.ensures.read in
    if_err_weaker c.bound_over.result _ _
    (λ h s. text_refused_over (g.F.Shelf.told c.args.shelf.now) (Rose (g.F.Shelf.faults c.args.shelf.now) (g.F.Shelf.faults c.file_of-2.new.shelf))
    c.args.source.now c.args.mesh.now c.args.kept.now c.file_of.new.kept c.deref.result.now (rw c.deref.ensures.value c.in_ok-bytes.ensures.read)
    (program_of c.in_ok-program.program) c.in_ok-program.ensures.ok c.in_ok-types.types c.in_ok-types.ensures.ok c.file_of-2.new.kept c.deref-2.result.now
    (rw c.deref-2.ensures.value there) h s)
    c.bound_over.ensures.err
