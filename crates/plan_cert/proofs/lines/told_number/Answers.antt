use Rattle.std.proofs.Common.{◌≡◌, ◌++◌, ◌∷◌, ◌∙◌, Some, sym, ap, arith}
use Rattle.std.specs.Fmt.{decimal}
use Rattle.std.proofs.lemmas.Slice.Eq.{strip_prefix_is}
use Rattle.std.proofs.lemmas.Bool.Decides.{Decides-eqb}
use Rattle.std.proofs.lemmas.List.{append_cancel_left}
use Rattle.op_num.specs.CutLines.{Unread}
use Rattle.op_num.proofs.Public.{front_there, front_missing}
use Rattle.plan_cert.proofs.Sizing.{no_digits, digits_are, ok_same, ok_no_err}
use Rattle.plan_cert.proofs.lines.told_number.Goals as goal

pub returns-in_err-behind : goal.returns-in_err-behind
returns-in_err-behind c = λ n more l e. absurd
    (front_missing c.args.rest.now c.args.front.now c.strip_prefix.result
    (strip_prefix_is Decides-eqb _ _ c.strip_prefix.result c.strip_prefix.ensures.cases) c.in_err-behind.was (decimal n ++ 10 ∷ more) e)

pub returns-in_err-digits : goal.returns-in_err-digits
returns-in_err-digits c = λ n more l e. absurd
    (no_digits c.new.result c.in_ok-behind.behind.now (decimal n) more c.new.ensures c.in_err-digits.ensures.0
    (append_cancel_left c.args.front.now c.in_ok-behind.behind.now (decimal n ++ 10 ∷ more)
    (sym (front_there c.args.rest.now c.args.front.now c.strip_prefix.result c.in_ok-behind.behind
    (strip_prefix_is Decides-eqb _ _ c.strip_prefix.result c.strip_prefix.ensures.cases) c.in_ok-behind.was) ∙ e)))

pub returns-in-Ok : goal.returns-in-Ok
returns-in-Ok c = λ n more l e. ap Some (ok_same c.in-Ok.number n c.read_u64.result c.in-Ok.is (c.read_u64.ensures ∙
    digits_are c.number_is_read.ensures n more c.in_ok-digits.digits.now c.next.new.self.rest c.in_ok-behind.behind.now l
    (append_cancel_left c.args.front.now c.in_ok-behind.behind.now (decimal n ++ 10 ∷ more)
    (sym (front_there c.args.rest.now c.args.front.now c.strip_prefix.result c.in_ok-behind.behind
    (strip_prefix_is Decides-eqb _ _ c.strip_prefix.result c.strip_prefix.ensures.cases) c.in_ok-behind.was) ∙ e))
    (sym (ap (λ (u : Unread). u.rest) c.new.ensures) ∙ c.in_ok-digits.ensures.whole) c.in_ok-digits.ensures.no_lf))

pub returns-in_default : goal.returns-in_default
returns-in_default c = λ n more l e. absurd (
    let same : c.in-Ok.number ≡ n = ok_same c.in-Ok.number n c.read_u64.result c.in-Ok.is (c.read_u64.ensures ∙
    digits_are c.number_is_read.ensures n more c.in_ok-digits.digits.now c.next.new.self.rest c.in_ok-behind.behind.now l
    (append_cancel_left c.args.front.now c.in_ok-behind.behind.now (decimal n ++ 10 ∷ more)
    (sym (front_there c.args.rest.now c.args.front.now c.strip_prefix.result c.in_ok-behind.behind
    (strip_prefix_is Decides-eqb _ _ c.strip_prefix.result c.strip_prefix.ensures.cases) c.in_ok-behind.was) ∙ e))
    (sym (ap (λ (u : Unread). u.rest) c.new.ensures) ∙ c.in_ok-digits.ensures.whole) c.in_ok-digits.ensures.no_lf) in
    let big = c.if-number.false in
    omega arith)

pub returns-in_default-2 : goal.returns-in_default-2
returns-in_default-2 c = λ n more l e. absurd (ok_no_err n c.in_default.field-0 c.read_u64.result c.in_default.is (c.read_u64.ensures ∙
    digits_are c.number_is_read.ensures n more c.in_ok-digits.digits.now c.next.new.self.rest c.in_ok-behind.behind.now l
    (append_cancel_left c.args.front.now c.in_ok-behind.behind.now (decimal n ++ 10 ∷ more)
    (sym (front_there c.args.rest.now c.args.front.now c.strip_prefix.result c.in_ok-behind.behind
    (strip_prefix_is Decides-eqb _ _ c.strip_prefix.result c.strip_prefix.ensures.cases) c.in_ok-behind.was) ∙ e))
    (sym (ap (λ (u : Unread). u.rest) c.new.ensures) ∙ c.in_ok-digits.ensures.whole) c.in_ok-digits.ensures.no_lf))
