use Rattle.std.proofs.Common.{◌++◌, [], ◌∷◌, refl, ap, sym, List, ℕ}
use Rattle.checkpoint.specs.Reading.{Exactly}
use Rattle.checkpoint.proofs.state_texts.Judging.{next_line, fits_one, refused_here}
use Rattle.checkpoint.proofs.state_texts.OneLine.{no_line, line_is, line_taken, same_front, bytes_differ, bytes_same}
use Rattle.checkpoint.proofs.state_texts.lines.take_exactly.Goals as goal

pub returns-in_default : goal.returns-in_default
returns-in_default c = λ b k. (
  0,
  next_line c.args.lines.now c.taken.result c.from-number.result c.taken.ensures.taken c.from-number.ensures,
  refused_here b k (Exactly (c.args.line.now ++ 10 ∷ [])) c.args.lines.now 3
      (refl, λ more i e. no_line c.args.lines.now.rest (c.args.line.now ++ 10 ∷ []) more c.in_default.ensures.0 i e),
)

pub returns-then-ne : goal.returns-then-ne
returns-then-ne c = λ b k. (
  0,
  next_line c.args.lines.now c.taken.result c.from-number.result c.taken.ensures.taken c.from-number.ensures,
  refused_here b k (Exactly (c.args.line.now ++ 10 ∷ [])) c.args.lines.now 3 (
    refl,
    λ more i e. bytes_differ c.in-Some.next.now c.args.line.now c.ne.result c.ne.ensures c.if-ne.true
        (sym (same_front c.args.line.now c.in-Some.next.now (line_is c.args.lines.now c.next.new.self c.in-Some.next.now (c.args.line.now ++ 10 ∷ []) more c.in-Some.ensures i e))),
  ),
)

pub returns : goal.returns
returns c = λ b k.
    let same = bytes_same c.in-Some.next.now c.args.line.now c.ne.result c.ne.ensures c.if-ne.false in
    fits_one b k (Exactly (c.args.line.now ++ 10 ∷ [])) c.args.lines.now c.next.new.self (c.in-Some.next.now ++ 10 ∷ []) []
    (line_taken c.args.lines.now c.next.new.self c.in-Some.next.now c.in-Some.ensures)
    ((c.in-Some.next.now, c.in-Some.ensures.no_lf, refl), ap (λ (z : List ℕ). z ++ 10 ∷ []) same, refl)
