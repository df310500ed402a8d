use Rattle.job_inputs.proofs.Unread.{lex_refused}
use Rattle.job_inputs.proofs.sources.tokens_of.Goals as goal

pub returns-in-Err-clause-err : goal.returns-in-Err-clause-err
returns-in-Err-clause-err c =
    lex_refused c.args.source.now c.in-Err.refusal c.unlexed.result c.in-Err.ensures.only c.in-Err.ensures.found c.unlexed.ensures
