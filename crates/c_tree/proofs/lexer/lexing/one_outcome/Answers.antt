use Rattle.c_tree.proofs.lexer.Outcomes.{one_outcome}
use Rattle.c_tree.proofs.lexer.lexing.one_outcome.Goals as goal

pub returns : goal.returns
returns c = one_outcome
