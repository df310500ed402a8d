use Rattle.std.proofs.Common.{◌≡◌, None, ap, ◌∙◌, rules, w32, FitsSigned}
use Rattle.std.proofs.lemmas.Int.{to_z-of_z}
use Rattle.std.proofs.lemmas.List.Sums.{prefix_len-le-length}
use Rattle.op_num.specs.Cut.{dark}
use Rattle.op_num.proofs.texts.Cutting.{a_token}
use Rattle.op_num.proofs.texts.ShortToken.{value_of, front_len, front_short}
use Rattle.op_num.proofs.texts.cutter.Tokens.next_short.Goals as goal

pub returns-in_err-value-clause-value : goal.returns-in_err-value-clause-value
returns-in_err-value-clause-value c =
    let none : c.from_residual.result ≡ None = search rules in
    none ∙ ap value_of c.in_err-value.ensures.is
    ∙ front_short c.args.self.now c.self.inside.last c.self.inside.line c.skip_blanks-line.result.1 _ c.skip_blanks-line.result.0.now
    c.self.view_is c.skip_blanks-line.ensures.words c.skip_blanks-line.ensures.dark
    (prefix_len-le-length dark c.skip_blanks-line.result.0.now)

pub returns-clause-value : goal.returns-clause-value
returns-clause-value c =
    let fits : FitsSigned w32 c.in_ok-value.value = search rules in
    rw (to_z-of_z w32 c.in_ok-value.value fits) (ap value_of c.in_ok-value.ensures.is
    ∙ front_short c.args.self.now c.self.inside.last c.self.inside.line c.skip_blanks-line.result.1 _ c.skip_blanks-line.result.0.now
    c.self.view_is c.skip_blanks-line.ensures.words c.skip_blanks-line.ensures.dark
    (prefix_len-le-length dark c.skip_blanks-line.result.0.now))

pub returns-clause-some : goal.returns-clause-some
returns-clause-some c t =
    let l = front_len c.in_ok-value.value c.in_ok-value.len c.skip_blanks-line.result.0.now c.in_ok-value.ensures.is in
    (a_token c.args.self.now c.self.inside.last c.self.inside.line c.skip_blanks-line.result.1 c.in_ok-value.len _
    c.skip_blanks-line.result.0.now _ c.split_at.result.1.now c.self.view_is c.skip_blanks-line.ensures.words
    c.skip_blanks-line.ensures.dark l.0 l.1 c.split_at.ensures.front c.split_at.ensures.back).1
