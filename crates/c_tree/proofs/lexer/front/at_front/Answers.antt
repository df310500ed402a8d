use Rattle.std.proofs.Common.{◌≡◌, length, subst, sym, ◌∙◌, take, IfOk}
use Rattle.c_tree.specs.Front.{LiesIn, IsFront, front_word}
use Rattle.c_tree.proofs.lexer.Fits.{figure_fits}
use Rattle.c_tree.proofs.lexer.Fronts.{front_letter, front_digit, text_answer, like_answer}
use Rattle.c_tree.proofs.lexer.front.at_front.Goals as goal

pub returns-then-is_letter-clause-is : goal.returns-then-is_letter-clause-is
returns-then-is_letter-clause-is c =
    like_answer c.args.fresh c.args.bytes.now _ c.word_or_name.result
    (front_letter c.args.fresh c.args.bytes.now c.requires (sym c.is_letter.ensures ∙ c.if-is_letter.true))
    (subst (λ z. IfOk c.word_or_name.result (λ f. f ≡ front_word (take z c.args.bytes.now))) c.name_len.ensures.size
    c.word_or_name.ensures.is)

pub returns-then-is_digit-clause-is : goal.returns-then-is_digit-clause-is
returns-then-is_digit-clause-is c =
    subst (IsFront c.args.fresh c.args.bytes.now) (sym c.figure.ensures) (front_digit c.args.fresh c.args.bytes.now c.requires (sym c.is_digit.ensures ∙ c.if-is_digit.true))

pub returns-then-is_digit-clause-within : goal.returns-then-is_digit-clause-within
returns-then-is_digit-clause-within c =
    subst (LiesIn (length c.args.bytes.now)) (sym c.figure.ensures) (figure_fits c.args.bytes.now c.requires (sym c.is_digit.ensures ∙ c.if-is_digit.true))

pub returns-then-first-eq34-clause-is : goal.returns-then-first-eq34-clause-is
returns-then-first-eq34-clause-is c =
    text_answer c.args.fresh c.args.bytes.now c.text.result c.text.ensures.is c.text.ensures.within
