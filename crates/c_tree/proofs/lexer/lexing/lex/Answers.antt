use Rattle.c_tree.proofs.lexer.Turns.{only_answer}
use Rattle.c_tree.proofs.lexer.lexing.lex.Goals as goal

pub returns-clause-only : goal.returns-clause-only
returns-clause-only c = λ o h. only_answer c.args.bytes.now c.scan.result o h c.scan.ensures
