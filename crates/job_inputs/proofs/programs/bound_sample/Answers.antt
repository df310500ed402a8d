use Rattle.std.proofs.Common.{◌∙◌}
use Rattle.std.proofs.lemmas.Result.{err_from_is_err_and}
use Rattle.c_tree.specs.View.{program_of}
use Rattle.bound_program.specs.Values.{bound_of}
use Rattle.job_inputs.proofs.Chained.{if_ok_weaker, if_err_weaker}
use Rattle.job_inputs.proofs.BoundFiles.{sample_tree_refused, sample_types_refused, sample_text_refused, sample_bound}
use Rattle.job_inputs.proofs.programs.bound_sample.Goals as goal

pub returns-in_err-program-clause-err : goal.returns-in_err-program-clause-err
returns-in_err-program-clause-err c =
    let p = err_from_is_err_and c.from_residual.result c.from_residual.ensures.1 in
    rw (p.1, p.2) (sample_tree_refused c.args.side.cells c.deref.result.now c.in_err-program.field-0.0 (c.deref.ensures.value ∙ c.in-Ok.ensures.source) c.in_err-program.ensures.err)

pub returns-in_err-types-clause-err : goal.returns-in_err-types-clause-err
returns-in_err-types-clause-err c =
    let p = err_from_is_err_and c.from_residual-in_err-types.result c.from_residual-in_err-types.ensures.1 in
    rw (p.1, p.2) (sample_types_refused c.args.side.cells c.deref.result.now (program_of c.in_ok-program.program) c.in_err-types.field-0.0
    (c.deref.ensures.value ∙ c.in-Ok.ensures.source) c.in_ok-program.ensures.ok c.in_err-types.ensures.err)

pub returns-clause-ok : goal.returns-clause-ok
returns-clause-ok c =
    if_ok_weaker c.bound_over.result _ _
    (λ b over. sample_bound c.args.side.cells c.deref.result.now c.deref-2.result.now (program_of c.in_ok-program.program) c.in_ok-types.types (bound_of b)
    (c.deref.ensures.value ∙ c.in-Ok.ensures.source) (c.deref-2.ensures.value ∙ c.in-Ok.ensures.mesh) c.in_ok-program.ensures.ok c.in_ok-types.ensures.ok over)
    c.bound_over.ensures.ok

pub returns-clause-err : goal.returns-clause-err
returns-clause-err c =
    if_err_weaker c.bound_over.result _ _
    (λ h s. sample_text_refused c.args.side.cells c.deref.result.now c.deref-2.result.now (program_of c.in_ok-program.program) c.in_ok-types.types h
    (c.deref.ensures.value ∙ c.in-Ok.ensures.source) (c.deref-2.ensures.value ∙ c.in-Ok.ensures.mesh) c.in_ok-program.ensures.ok c.in_ok-types.ensures.ok s)
    c.bound_over.ensures.err
