use Rattle.std.proofs.Common.{◌∙◌, ap, get_or, unwrap_or}
use Rattle.std.specs.HashMap.{get}
use Rattle.colouring.specs.Masks.{same_word}
use Rattle.colouring.proofs.Words.{given_later}
use Rattle.colouring.proofs.masks.Masks.give_later.Goals as goal

pub returns-in_ok-count_one-clause-given : goal.returns-in_ok-count_one-clause-given
returns-in_ok-count_one-clause-given c =
    let u = c.in_ok-insert.ensures.updates in
    given_later (λ t. get_or c.args.self.now.first.items t 0) (get same_word c.args.self.now.later) (get same_word c.insert.new.self)
    c.args.target c.args.number c.args.bit c.unwrap_or.result c.requires.later c.requires.bit
    (c.unwrap_or.ensures ∙ ap (λ o. unwrap_or o 0) (c.copied-old.ensures ∙ c.get.ensures.value)) u.1 u.2

pub returns-else-is_none-clause-given : goal.returns-else-is_none-clause-given
returns-else-is_none-clause-given c =
    let u = c.in_ok-insert.ensures.updates in
    given_later (λ t. get_or c.args.self.now.first.items t 0) (get same_word c.args.self.now.later) (get same_word c.insert.new.self)
    c.args.target c.args.number c.args.bit c.unwrap_or.result c.requires.later c.requires.bit
    (c.unwrap_or.ensures ∙ ap (λ o. unwrap_or o 0) (c.copied-old.ensures ∙ c.get.ensures.value)) u.1 u.2
