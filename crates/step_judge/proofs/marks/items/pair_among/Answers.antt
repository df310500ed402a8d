use Rattle.std.proofs.Common.{◌≡◌, ◌<◌, ◌≤◌, true, false, sym, ◌∙◌, arith, length, get_or}
use Rattle.std.specs.Prelude.{◌&&◌, ◌==◌}
use Rattle.step_judge.proofs.marks.Rising.{found, not_found}
use Rattle.step_judge.proofs.marks.items.pair_among.Goals as goal

pub returns-then-here-len : goal.returns-then-here-len
returns-then-here-len c =
    let end : length c.args.sends.now.of ≤ c.first_from-here.result = omega (arith, c.len.ensures, c.if-here-len.true) in
    c.len-then-here-len.ensures
    ∙ not_found c.args.sends.now.of c.args.receipts.now.of c.args.from c.args.to c.first_from-here.result c.requires.both c.requires.rising
    c.first_from-here.ensures.before c.first_from-here.ensures.later (λ lt. absurd (omega arith))

pub returns-then-is_pair : goal.returns-then-is_pair
returns-then-is_pair c =
    let lt : c.first_from-here.result < length c.args.sends.now.of = omega (arith, c.len.ensures, c.if-here-len.false) in
    let is : ((get_or c.args.sends.now.of c.first_from-here.result 0 == c.args.from) && (get_or c.args.receipts.now.of c.first_from-here.result 0 == c.args.to)) ≡ true =
    rw (← c.stage.ensures, ← c.stage-2.ensures) (sym c.is_pair.ensures ∙ c.if-is_pair.true) in
    found c.args.sends.now.of c.args.receipts.now.of c.args.from c.args.to c.first_from-here.result c.requires.both lt is c.first_from-here.ensures.before

pub returns : goal.returns
returns c =
    let is : ((get_or c.args.sends.now.of c.first_from-here.result 0 == c.args.from) && (get_or c.args.receipts.now.of c.first_from-here.result 0 == c.args.to)) ≡ false =
    rw (← c.stage.ensures, ← c.stage-2.ensures) (sym c.is_pair.ensures ∙ c.if-is_pair.false) in
    c.len-2.ensures
    ∙ not_found c.args.sends.now.of c.args.receipts.now.of c.args.from c.args.to c.first_from-here.result c.requires.both c.requires.rising
    c.first_from-here.ensures.before c.first_from-here.ensures.later (λ lt. is)
