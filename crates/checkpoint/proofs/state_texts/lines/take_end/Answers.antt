use Rattle.std.proofs.Common.{◌≡◌, ◌∙◌, [], refl, sym, codes}
use Rattle.std.proofs.lemmas.List.{append_cancel_left}
use Rattle.checkpoint.specs.Reading.{Done}
use Rattle.checkpoint.proofs.state_texts.Judging.{next_line, fits_one, refused_here}
use Rattle.checkpoint.proofs.state_texts.lines.take_end.Goals as goal
use Rattle.lemmas.proofs.Lists.{empty_from_test, not_empty_from_test}

pub returns-then-not-take-clause-judged : goal.returns-then-not-take-clause-judged
returns-then-not-take-clause-judged c = λ b k. (
  0,
  next_line c.args.lines.now c.taken.result c.from-number.result c.taken.ensures.taken c.from-number.ensures,
  refused_here b k Done c.args.lines.now 5 (refl, λ e. c.take.ensures.other c.if-not-take.true [] e),
)

pub returns-then-not-is_empty-clause-judged : goal.returns-then-not-is_empty-clause-judged
returns-then-not-is_empty-clause-judged c = λ b k. (
  0,
  next_line c.args.lines.now c.taken.result c.from-number.result c.taken.ensures.taken c.from-number.ensures,
  refused_here b k Done c.args.lines.now 5 (
    refl,
    λ e. (
        let rest : c.take.new.self.rest ≡ [] = append_cancel_left (codes "done\n") c.take.new.self.rest [] (sym (c.take.ensures.taken c.if-not-take.false).whole ∙ e) in
        let none : c.rest.result.now ≡ [] = c.rest.ensures ∙ rest in
        not_empty_from_test c.rest.result.now c.is_empty.result c.is_empty.ensures c.if-not-is_empty.true none),
  ),
)

pub returns-clause-judged : goal.returns-clause-judged
returns-clause-judged c = λ b k. fits_one b k Done c.args.lines.now c.take.new.self (codes "done\n") [] (c.take.ensures.taken c.if-not-take.false) (refl, refl)

pub returns-clause-rest : goal.returns-clause-rest
returns-clause-rest c = sym c.rest.ensures ∙ empty_from_test c.rest.result.now c.is_empty.result c.is_empty.ensures c.if-not-is_empty.false
