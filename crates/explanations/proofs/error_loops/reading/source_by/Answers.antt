use Rattle.explanations.proofs.error_loops.reading.source_by.Goals as goal

pub returns-in-None-clause-none : goal.returns-in-None-clause-none
returns-in-None-clause-none c = λ lexed p types r. (rw c.in-None.is at c.in_ok-program.ensures.none) p r.reads
