use Rattle.c_tree.proofs.lexer.Order.{tokens_in_order}
use Rattle.c_tree.proofs.lexer.lexing.tokens_in_order.Goals as goal

pub returns : goal.returns
returns c = tokens_in_order
