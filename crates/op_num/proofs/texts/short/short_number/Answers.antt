use Rattle.std.proofs.Common.{◌≡◌, ◌+◌, ◌*◌, ◌^◌, ◌<◌, ◌≤◌, ◌&&◌, nat_lt, length, get_or, true, false, sym, ap, ◌∙◌, arith}
use Rattle.std.specs.Char.{is_ascii_digit}
use Rattle.op_num.specs.Cut.{blank}
use Rattle.op_num.proofs.texts.FewBytes.{ends_at, too_many, one_more, all_digits, digit_small, below_more, below_all, small_some}
use Rattle.op_num.proofs.texts.short.short_number.Goals as goal

pub returns-then-not-is_ascii_digit-clause-is : goal.returns-then-not-is_ascii_digit-clause-is
returns-then-not-is_ascii_digit-clause-is c =
    let lt : c.loop-len.len < length c.args.bytes.now = omega arith in
    let d : is_ascii_digit (get_or c.args.bytes.now c.loop-len.len 0) ≡ false = sym c.is_ascii_digit.ensures.value ∙ c.if-not-is_ascii_digit.true in
    c.ended.ensures ∙ sym (ends_at c.args.most c.loop-len.number c.loop-len.len c.args.bytes.now c.loop-len.invariant.so_far lt d)

pub returns-then-not-is_ascii_digit-clause-small : goal.returns-then-not-is_ascii_digit-clause-small
returns-then-not-is_ascii_digit-clause-small c =
    let few : c.loop-len.len ≤ 9 = omega (arith, c.loop-len.invariant.few, c.requires) in
    let b : c.loop-len.number < 10 ^ 9 = below_all c.loop-len.number c.loop-len.len 9 c.loop-len.invariant.below few in
    small_some (nat_lt 0 c.loop-len.len && blank (get_or c.args.bytes.now c.loop-len.len 0)) c.loop-len.number c.loop-len.len _ c.ended.ensures (omega arith)

pub returns-then-len-most-clause-is : goal.returns-then-len-most-clause-is
returns-then-len-most-clause-is c =
    let lt : c.loop-len.len < length c.args.bytes.now = omega arith in
    let d : is_ascii_digit (get_or c.args.bytes.now c.loop-len.len 0) ≡ true = sym c.is_ascii_digit.ensures.value ∙ c.if-not-is_ascii_digit.false in
    sym (too_many c.args.most c.loop-len.number c.loop-len.len c.args.bytes.now c.loop-len.invariant.so_far lt d c.if-len-most.true)

pub overflow_mul-number : goal.overflow_mul-number
overflow_mul-number c =
    let few : c.loop-len.len ≤ 8 = omega (arith, c.loop-len.invariant.few, c.requires, c.if-len-most.false) in
    let b : c.loop-len.number < 10 ^ 8 = below_all c.loop-len.number c.loop-len.len 8 c.loop-len.invariant.below few in
    omega arith

pub overflow_add-number : goal.overflow_add-number
overflow_add-number c =
    let few : c.loop-len.len ≤ 8 = omega (arith, c.loop-len.invariant.few, c.requires, c.if-len-most.false) in
    let b : c.loop-len.number < 10 ^ 8 = below_all c.loop-len.number c.loop-len.len 8 c.loop-len.invariant.below few in
    let d : is_ascii_digit (get_or c.args.bytes.now c.loop-len.len 0) ≡ true = sym c.is_ascii_digit.ensures.value ∙ c.if-not-is_ascii_digit.false in
    let s = digit_small (get_or c.args.bytes.now c.loop-len.len 0) d in
    omega (arith, s, c.from.ensures)

pub loop-len-preserved : goal.loop-len-preserved
loop-len-preserved c =
    let lt : c.loop-len.len < length c.args.bytes.now = omega arith in
    let d : is_ascii_digit (get_or c.args.bytes.now c.loop-len.len 0) ≡ true = sym c.is_ascii_digit.ensures.value ∙ c.if-not-is_ascii_digit.false in
    let is = ap (λ x. c.loop-len.number * 10 + x) c.from.ensures in
    record {
      so_far = one_more c.args.most c.loop-len.number c.loop-len.len c.args.bytes.now c.loop-len.invariant.so_far _ lt d c.if-len-most.false is;
      below = below_more c.loop-len.number c.loop-len.len _ _ c.loop-len.invariant.below (digit_small (get_or c.args.bytes.now c.loop-len.len 0) d) is;
      few = omega (arith, c.loop-len.invariant.few, c.if-len-most.false);
    }

pub returns-clause-is : goal.returns-clause-is
returns-clause-is c =
    let e : c.loop-len.len ≡ length c.args.bytes.now = omega arith in
    c.ended-2.ensures ∙ sym (all_digits c.args.most c.loop-len.number c.loop-len.len c.args.bytes.now c.loop-len.invariant.so_far e)

pub returns-clause-small : goal.returns-clause-small
returns-clause-small c =
    let few : c.loop-len.len ≤ 9 = omega (arith, c.loop-len.invariant.few, c.requires) in
    let b : c.loop-len.number < 10 ^ 9 = below_all c.loop-len.number c.loop-len.len 9 c.loop-len.invariant.below few in
    small_some (nat_lt 0 (length c.args.bytes.now) && blank 10) c.loop-len.number (length c.args.bytes.now) _ c.ended-2.ensures (omega arith)
