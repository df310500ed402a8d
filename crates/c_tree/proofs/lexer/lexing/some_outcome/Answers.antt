use Rattle.c_tree.proofs.lexer.SomeOutcome as law
use Rattle.c_tree.proofs.lexer.lexing.some_outcome.Goals as goal

pub returns : goal.returns
returns c = law.some_outcome
