use Rattle.std.proofs.Common.{length, subst, sym, ◌∙◌}
use Rattle.c_tree.specs.Front.{LiesIn, IsFront}
use Rattle.c_tree.specs.declared.lexer.front.Front.TheVariants.{Passed}
use Rattle.c_tree.proofs.lexer.Closes.{rest_is}
use Rattle.c_tree.proofs.lexer.Fits.{sign_fits}
use Rattle.c_tree.proofs.lexer.Lines.{line_front, block_front, open_front}
use Rattle.c_tree.proofs.lexer.Fronts.{front_other}
use Rattle.c_tree.proofs.lexer.front.passed_or_sign.Goals as goal

pub returns-then-passes_rest_of_line-clause-is : goal.returns-then-passes_rest_of_line-clause-is
returns-then-passes_rest_of_line-clause-is c =
    subst (λ z. IsFront c.args.fresh c.args.bytes.now (Passed z)) (sym c.line_len.ensures.size)
    (line_front c.args.fresh c.args.bytes.now (sym c.passes_rest_of_line.ensures ∙ c.if-passes_rest_of_line.true))

pub returns-in-Some-clause-is : goal.returns-in-Some-clause-is
returns-in-Some-clause-is c =
    block_front c.args.fresh c.args.bytes.now c.in-Some.len (sym c.starts_with.ensures.value ∙ c.if-starts_with.true) (rw (rest_is 2 c.args.bytes.now) at (sym c.close_at.ensures.size ∙ c.in-Some.is))

pub returns-in-None-clause-is : goal.returns-in-None-clause-is
returns-in-None-clause-is c =
    open_front c.args.fresh c.args.bytes.now (sym c.starts_with.ensures.value ∙ c.if-starts_with.true) (rw (rest_is 2 c.args.bytes.now) at (sym c.close_at.ensures.size ∙ c.in-None.is))

pub returns-else-starts_with-clause-is : goal.returns-else-starts_with-clause-is
returns-else-starts_with-clause-is c =
    subst (IsFront c.args.fresh c.args.bytes.now) (sym c.sign.ensures)
    (front_other c.args.fresh c.args.bytes.now c.requires.some c.requires.no_blank c.requires.no_letter c.requires.no_digit
    c.requires.no_quote (sym c.passes_rest_of_line.ensures ∙ c.if-passes_rest_of_line.false)
    (sym c.starts_with.ensures.value ∙ c.if-starts_with.false))

pub returns-else-starts_with-clause-within : goal.returns-else-starts_with-clause-within
returns-else-starts_with-clause-within c =
    subst (LiesIn (length c.args.bytes.now)) (sym c.sign.ensures) (sign_fits c.args.bytes.now c.requires.some)
