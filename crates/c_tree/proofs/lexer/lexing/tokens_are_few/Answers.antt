use Rattle.c_tree.proofs.lexer.Few as law
use Rattle.c_tree.proofs.lexer.lexing.tokens_are_few.Goals as goal

pub returns : goal.returns
returns c = law.tokens_are_few
