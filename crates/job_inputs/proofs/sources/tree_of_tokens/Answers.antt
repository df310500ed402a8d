use Rattle.job_inputs.proofs.Unread.{tree_refused}
use Rattle.job_inputs.proofs.sources.tree_of_tokens.Goals as goal

pub returns-in-Err-clause-err : goal.returns-in-Err-clause-err
returns-in-Err-clause-err c =
    tree_refused c.args.source.now c.in-Err.refusal c.unread.result c.in-Err.ensures.only c.in-Err.ensures.deep c.in-Err.ensures.refused c.unread.ensures
