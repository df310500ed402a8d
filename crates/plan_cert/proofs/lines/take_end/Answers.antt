use Rattle.std.proofs.Common.{◌≡◌, ◌∙◌, [], refl, sym}
use Rattle.std.proofs.lemmas.List.{append_cancel_left}
use Rattle.plan_cert.specs.Awaited.{Done, done_line}
use Rattle.plan_cert.proofs.Reading.{next_number, fits_one, refused_here}
use Rattle.plan_cert.proofs.lines.take_end.Goals as goal
use Rattle.lemmas.proofs.Lists.{empty_from_test, not_empty_from_test}

pub returns-then-not-take-clause-judged : goal.returns-then-not-take-clause-judged
returns-then-not-take-clause-judged c = λ b meshes size. (
  0,
  next_number c.args.lines.now c.args.lines.now c.taken-line.result c.taken-line.ensures.taken refl,
  refused_here b meshes size Done c.args.lines.now 8 (refl, λ e. c.take.ensures.other c.if-not-take.true [] e),
)

pub returns-then-not-is_empty-clause-judged : goal.returns-then-not-is_empty-clause-judged
returns-then-not-is_empty-clause-judged c = λ b meshes size. (
  0,
  next_number c.args.lines.now c.args.lines.now c.taken-line.result c.taken-line.ensures.taken refl,
  refused_here b meshes size Done c.args.lines.now 8 (
    refl,
    λ e. (
        let rest : c.take.new.self.rest ≡ [] = append_cancel_left done_line c.take.new.self.rest [] (sym (c.take.ensures.taken c.if-not-take.false).whole ∙ e) in
        let none : c.rest.result.now ≡ [] = c.rest.ensures ∙ rest in
        not_empty_from_test c.rest.result.now c.is_empty.result c.is_empty.ensures c.if-not-is_empty.true none),
  ),
)

pub returns-clause-judged : goal.returns-clause-judged
returns-clause-judged c = λ b meshes size. fits_one b meshes size Done c.args.lines.now c.take.new.self done_line [] (c.take.ensures.taken c.if-not-take.false) (refl, refl)

pub returns-clause-rest : goal.returns-clause-rest
returns-clause-rest c = sym c.rest.ensures ∙ empty_from_test c.rest.result.now c.is_empty.result c.is_empty.ensures c.if-not-is_empty.false
