use Rattle.std.proofs.Common.{◌+◌, Some, ap, sym, ◌∙◌}
use Rattle.op_num.proofs.texts.FewBytes.{front-minus, minus, neg_value}
use Rattle.op_num.proofs.texts.short.short_negative.Goals as goal

pub returns-clause-is : goal.returns-clause-is
returns-clause-is c =
    ap (λ z. Some (z, c.in_ok-number.len + 1)) (neg_value c.in_ok-number.number c.in_ok-number.ensures.small)
    ∙ ap minus c.in_ok-number.ensures.is ∙ sym (front-minus c.args.digits.now)
