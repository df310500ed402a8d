use Rattle.explanations.proofs.error_loops.reading.source_of.Goals as goal

pub returns-in-None-clause-none : goal.returns-in-None-clause-none
returns-in-None-clause-none c = λ tokens p types r. (rw c.in-None.is at c.in_ok-tokens.ensures.none) tokens r.lexes
