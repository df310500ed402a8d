use Rattle.std.proofs.Common.{ap, ◌∙◌, max, unwrap_or}
use Rattle.std.specs.HashMap.{get}
use Rattle.colouring.specs.Masks.{same_words, Fill}
use Rattle.colouring.proofs.Words.{known_words}
use Rattle.colouring.proofs.masks.Masks.known.Goals as goal

pub returns-clause-filled : goal.returns-clause-filled
returns-clause-filled c =
    let a = c.args.a in
    let b = c.args.b in
    let v = c.args.number in
    known_words (get same_words c.args.self.now.passed (a, b, v)) (Fill c.args.self.now a b) v c.max.result
    (c.max.ensures ∙ ap (λ z. max z v) (c.unwrap_or.ensures ∙ ap (λ z. unwrap_or z v) (c.copied.ensures ∙ c.get.ensures.value)))
    (λ n e. c.requires.sound a b v n e)
