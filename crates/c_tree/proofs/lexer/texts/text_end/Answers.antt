use Rattle.std.proofs.Common.{sym, ◌∙◌}
use Rattle.c_tree.proofs.lexer.Closes.{rest_is}
use Rattle.c_tree.proofs.lexer.Fronts.{open_text, bad_text}
use Rattle.c_tree.proofs.lexer.texts.text_end.Goals as goal

pub returns-then-is_closed-clause-is : goal.returns-then-is_closed-clause-is
returns-then-is_closed-clause-is c =
    bad_text c.args.bytes.now c.args.decoded.items c.args.next c.requires.in_bytes c.requires.textual c.requires.so_far
    c.if-bytes-next-eq34.false c.requires.no_unit
    (rw (rest_is c.args.next c.args.bytes.now) at (sym c.is_closed.ensures ∙ c.if-is_closed.true))

pub returns-clause-is : goal.returns-clause-is
returns-clause-is c =
    open_text c.args.bytes.now c.args.decoded.items c.args.next c.requires.so_far (rw (rest_is c.args.next c.args.bytes.now) at (sym c.is_closed.ensures ∙ c.if-is_closed.false))
