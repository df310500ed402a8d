use Rattle.std.proofs.lemmas.Result.{err_from_is_err_and}
use Rattle.op_outside.specs.Outside.{Rose}
use Rattle.bound_program.specs.Values.{bound_of}
use Rattle.command_words.specs.Words.{names_by}
use Rattle.command_words.specs.Values.{chain_job_in, chain_options_in, input_in}
use Rattle.answers.specs.Answers.{ChainAnswers}
use Rattle.job_inputs.proofs.Public.{input_next, own_next, job_halted, job_answered}
use Rattle.op2_command.proofs.answered.to_chains.Goals as goal

pub bound_input-requires-clause-next : goal.bound_input-requires-clause-next
bound_input-requires-clause-next g c =
    input_next (g.F.Shelf.told c.args.shelf.now) (Rose 0 0) (ChainAnswers (chain_job_in c.args.job) (chain_options_in c.args.options.now)) (input_in c.args.input)
    (names_by (chain_options_in c.args.options.now).parting) c.in_ok-kept.kept c.in_ok-kept.ensures

pub returns-in_err-bound : goal.returns-in_err-bound
returns-in_err-bound g c =
    let p = err_from_is_err_and c.from_residual-in_err-bound.result c.from_residual-in_err-bound.ensures.1 in
    rw (p.1, p.2) (job_halted (g.F.Shelf.told c.args.shelf.now) (Rose (g.F.Shelf.faults c.args.shelf.now) (g.F.Shelf.faults c.bound_input.new.shelf))
    (ChainAnswers (chain_job_in c.args.job) (chain_options_in c.args.options.now)) (input_in c.args.input) (names_by (chain_options_in c.args.options.now).parting)
    c.in_ok-kept.kept c.some_files_are_as_seen.ensures c.in_ok-kept.ensures c.in_err-bound.field-0.0 c.in_err-bound.ensures.err)

pub chained-requires-clause-next : goal.chained-requires-clause-next
chained-requires-clause-next g c =
    own_next (g.F.Shelf.told c.args.shelf.now) (Rose 0 0) (ChainAnswers (chain_job_in c.args.job) (chain_options_in c.args.options.now)) (input_in c.args.input)
    (names_by (chain_options_in c.args.options.now).parting) c.in_ok-kept.kept c.bound_input.new.kept c.in_ok-kept.ensures c.in_ok-bound.ensures.come

pub returns : goal.returns
returns g c =
    let rest = rw c.in_ok-bound.ensures.calm at (rw c.in_ok-bound.ensures.told at c.chained.ensures) in
    job_answered (g.F.Shelf.told c.args.shelf.now) (Rose (g.F.Shelf.faults c.args.shelf.now) (g.F.Shelf.faults c.chained.new.shelf))
    (ChainAnswers (chain_job_in c.args.job) (chain_options_in c.args.options.now)) (input_in c.args.input) (names_by (chain_options_in c.args.options.now).parting)
    c.in_ok-kept.kept c.some_files_are_as_seen.ensures c.in_ok-kept.ensures
    c.bound_input.new.kept (bound_of c.in_ok-bound.bound) c.chained.result c.in_ok-bound.ensures.ok c.in_ok-bound.ensures.come rest
