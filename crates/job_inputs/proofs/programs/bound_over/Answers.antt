use Rattle.std.proofs.lemmas.Result.{err_from_is_err_and}
use Rattle.c_tree.specs.View.{program_of}
use Rattle.bound_program.specs.Values.{bound_of}
use Rattle.job_inputs.proofs.MeshText.{entries_refused, bound_refused, accesses_refused}
use Rattle.job_inputs.proofs.programs.bound_over.Goals as goal

pub returns-in_err-entries-clause-err : goal.returns-in_err-entries-clause-err
returns-in_err-entries-clause-err c =
    let p = err_from_is_err_and c.from_residual.result c.from_residual.ensures.1 in
    rw (p.1, p.2) (entries_refused (program_of c.args.program.now) c.args.types c.args.text.now c.in_err-entries.field-0.0 c.in_err-entries.ensures.err)

pub returns-in_err-bound-clause-err : goal.returns-in_err-bound-clause-err
returns-in_err-bound-clause-err c =
    let p = err_from_is_err_and c.from_residual-in_err-bound.result c.from_residual-in_err-bound.ensures.1 in
    rw (p.1, p.2) (bound_refused (program_of c.args.program.now) c.args.types c.args.text.now c.in_ok-entries.entries.entries
    c.in_err-bound.field-0.0 c.in_ok-entries.ensures.ok c.in_err-bound.ensures.err)

pub returns-in_err-judge_accesses-clause-err : goal.returns-in_err-judge_accesses-clause-err
returns-in_err-judge_accesses-clause-err c =
    let p = err_from_is_err_and c.from_residual-in_err-judge_accesses.result c.from_residual-in_err-judge_accesses.ensures.1 in
    rw (p.1, p.2) (accesses_refused (program_of c.args.program.now) c.args.types c.args.text.now c.in_ok-entries.entries.entries
    (bound_of c.in_ok-bound.bound) c.in_err-judge_accesses.field-0.0 c.in_ok-entries.ensures.ok c.in_ok-bound.ensures.ok
    c.in_err-judge_accesses.ensures.err)

pub returns-clause-ok : goal.returns-clause-ok
returns-clause-ok c =
    record { entries = c.in_ok-entries.entries.entries; spelled = c.in_ok-entries.ensures.ok; is = c.in_ok-bound.ensures.ok; obeyed = c.in_ok-judge_accesses.ensures.ok }
