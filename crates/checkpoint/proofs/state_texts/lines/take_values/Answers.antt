use Rattle.std.proofs.Common.{◌++◌, ◌∷◌, [], refl, subst}
use Rattle.checkpoint.specs.Reading.{Values}
use Rattle.checkpoint.specs.Judged.{ToldIs}
use Rattle.checkpoint.proofs.state_texts.Judging.{next_line, fits_one, refused_here}
use Rattle.checkpoint.proofs.state_texts.OneLine.{no_line, line_taken, values_line, values_refused}
use Rattle.checkpoint.proofs.state_texts.lines.take_values.Goals as goal

pub returns-in_default : goal.returns-in_default
returns-in_default c = λ b k. (
  0,
  next_line c.args.lines.now c.taken.result c.from-number.result c.taken.ensures.taken c.from-number.ensures,
  refused_here b k (Values c.args.count) c.args.lines.now 4
      (refl, λ line more zs h e. no_line c.args.lines.now.rest line more c.in_default.ensures.0 (values_line c.args.count line zs h) e),
)

pub returns-then-not-branch : goal.returns-then-not-branch
returns-then-not-branch c = λ b k. (
  0,
  next_line c.args.lines.now c.taken.result c.from-number.result c.taken.ensures.taken c.from-number.ensures,
  refused_here b k (Values c.args.count) c.args.lines.now 4 (values_refused b c.args.count c.args.lines.now c.next.new.self c.in-Some.line.now c.in-Some.ensures
      (subst (ToldIs c.in-Some.line.now c.args.count c.args.values.now.items c.told_values.new.values.items) c.if-not-branch.true c.in_ok-told_values.ensures)),
)

pub returns : goal.returns
returns c = λ b k.
    let told = subst (ToldIs c.in-Some.line.now c.args.count c.args.values.now.items c.told_values.new.values.items) c.if-not-branch.false c.in_ok-told_values.ensures in
    record {
      more = told.0;
      pushed = told.1;
      fits = fits_one b k (Values c.args.count) c.args.lines.now c.next.new.self (c.in-Some.line.now ++ 10 ∷ []) told.0
          (line_taken c.args.lines.now c.next.new.self c.in-Some.line.now c.in-Some.ensures) told.2;
    }
