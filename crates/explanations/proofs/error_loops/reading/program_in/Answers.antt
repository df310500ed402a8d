use Rattle.explanations.proofs.error_loops.reading.program_in.Goals as goal

pub returns-in-Err-Lex-clause-none : goal.returns-in-Err-Lex-clause-none
returns-in-Err-Lex-clause-none c = λ p r. rw c.in-Err-Lex.field-0-is at (c.in-Err-Lex.ensures.only p r)

pub returns-in-Err-Syntax-clause-none : goal.returns-in-Err-Syntax-clause-none
returns-in-Err-Syntax-clause-none c = λ p r. rw c.in-Err-Syntax.field-0-is at (c.in-Err-Syntax.ensures.only p r)

pub returns-in-Err-TooDeep-clause-none : goal.returns-in-Err-TooDeep-clause-none
returns-in-Err-TooDeep-clause-none c = λ p r. rw c.in-Err-TooDeep.field-0-is at (c.in-Err-TooDeep.ensures.only p r)
