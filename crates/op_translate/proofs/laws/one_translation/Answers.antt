use Rattle.std.proofs.Common.{◌≡◌, List, Ok, ap, sym, ◌∙◌}
use Rattle.c_tree.specs.declared.lexer.tokens.Token.{Token}
use Rattle.c_tree.specs.Lexed.{Outcome}
use Rattle.op_translate.specs.Translation.{first_refusal, refuses_stub, translation, unless}
use Rattle.op_translate.proofs.laws.one_translation.Goals as goal

one_list : (a b : List Token) → ◌≡◌ {A = Outcome} (Ok a) (Ok b) → a ≡ b
one_list a b h = cc

pub returns : goal.returns
returns c bytes p a b x y =
    x.is
    ∙ (ap (λ ts. unless (first_refusal refuses_stub ts) (translation bytes ts p)) (one_list x.tokens y.tokens (c.one_outcome.ensures bytes (Ok x.tokens) (Ok y.tokens) x.lexed y.lexed)) ∙ sym y.is)
