use Rattle.std.proofs.lemmas.Result.{err_from_is_err_and}
use Rattle.op_outside.specs.Outside.{Rose}
use Rattle.bound_program.specs.Values.{bound_of}
use Rattle.command_words.specs.Words.{InFiles}
use Rattle.command_words.specs.Values.{options_in}
use Rattle.tool_words.specs.Values.{plan_job_of}
use Rattle.tool_command.specs.ToolAnswers.{PlanJobAnswers}
use Rattle.tool_command.specs.Endings.{names_behind}
use Rattle.job_inputs.proofs.Public.{input_next, own_next, job_halted, job_answered}
use Rattle.tool_command.proofs.planned.on_plan.Goals as goal

pub bound_input-requires-clause-next : goal.bound_input-requires-clause-next
bound_input-requires-clause-next g c =
    input_next (g.F.Shelf.told c.args.shelf.now) (Rose 0 0) (PlanJobAnswers (plan_job_of c.args.job) (options_in c.args.options.now))
    (InFiles c.args.source.now c.args.mesh.now) (names_behind (plan_job_of c.args.job) (options_in c.args.options.now))
    c.in_ok-kept.kept c.in_ok-kept.ensures

pub returns-in_err-bound : goal.returns-in_err-bound
returns-in_err-bound g c =
    let p = err_from_is_err_and c.from_residual-in_err-bound.result c.from_residual-in_err-bound.ensures.1 in
    rw (p.1, p.2) (job_halted (g.F.Shelf.told c.args.shelf.now) (Rose (g.F.Shelf.faults c.args.shelf.now) (g.F.Shelf.faults c.bound_input.new.shelf))
    (PlanJobAnswers (plan_job_of c.args.job) (options_in c.args.options.now)) (InFiles c.args.source.now c.args.mesh.now)
    (names_behind (plan_job_of c.args.job) (options_in c.args.options.now)) c.in_ok-kept.kept c.some_files_are_as_seen.ensures
    c.in_ok-kept.ensures c.in_err-bound.field-0.0 c.in_err-bound.ensures.err)

pub on_bound_plan-requires-clause-next : goal.on_bound_plan-requires-clause-next
on_bound_plan-requires-clause-next g c =
    own_next (g.F.Shelf.told c.args.shelf.now) (Rose 0 0) (PlanJobAnswers (plan_job_of c.args.job) (options_in c.args.options.now))
    (InFiles c.args.source.now c.args.mesh.now) (names_behind (plan_job_of c.args.job) (options_in c.args.options.now))
    c.in_ok-kept.kept c.bound_input.new.kept c.in_ok-kept.ensures c.in_ok-bound.ensures.come

pub returns : goal.returns
returns g c =
    let rest = rw c.in_ok-bound.ensures.calm at (rw c.in_ok-bound.ensures.told at c.on_bound_plan.ensures) in
    job_answered (g.F.Shelf.told c.args.shelf.now) (Rose (g.F.Shelf.faults c.args.shelf.now) (g.F.Shelf.faults c.on_bound_plan.new.shelf))
    (PlanJobAnswers (plan_job_of c.args.job) (options_in c.args.options.now)) (InFiles c.args.source.now c.args.mesh.now)
    (names_behind (plan_job_of c.args.job) (options_in c.args.options.now)) c.in_ok-kept.kept c.some_files_are_as_seen.ensures
    c.in_ok-kept.ensures c.bound_input.new.kept (bound_of c.in_ok-bound.bound) c.on_bound_plan.result c.in_ok-bound.ensures.ok c.in_ok-bound.ensures.come rest
