use Rattle.std.proofs.Common.{◌≡◌, [], ◌∷◌, length, subst, arith}
use Rattle.bound_program.specs.Values.{bound_of}
use Rattle.plan_cert.specs.Awaited.{each_below, awaited_item, awaited_items}
use Rattle.plan_cert.specs.Judged.{FitsAmong}
use Rattle.plan_cert.proofs.Reading.{fits_none, fits_more, refused_at, passed_on}
use Rattle.plan_cert.proofs.lines.take_items.Goals as goal

pub loop-item-init : goal.loop-item-init
loop-item-init c = λ size. fits_none (bound_of c.args.bound.now) c.args.ranks.now size c.args.lines.now

pub returns-in_err-take_item : goal.returns-in_err-take_item
returns-in_err-take_item c = λ size.
    let b = bound_of c.args.bound.now in
    passed_on b c.args.ranks.now size (awaited_items b c.args.ranks.now) c.args.lines.now _ (λ _. []) c.from_residual.result c.in_err-take_item.field-0.0 c.from_residual.ensures.1
    (refused_at b c.args.ranks.now size (λ k. awaited_item b c.args.ranks.now k ∷ []) c.loop-item.item (length b.trace) c.args.lines.now
    c.loop-item.lines [] c.in_err-take_item.field-0.0 (omega arith) (c.loop-item.invariant size) (c.in_err-take_item.ensures size))

pub loop-item-preserved : goal.loop-item-preserved
loop-item-preserved c = λ size.
    let b = bound_of c.args.bound.now in
    fits_more b c.args.ranks.now size (λ k. awaited_item b c.args.ranks.now k ∷ []) c.loop-item.item c.args.lines.now c.loop-item.lines
    c.take_item.new.lines [] [] (c.loop-item.invariant size) (c.in_ok-take_item.ensures size)

pub returns : goal.returns
returns c = λ size.
    let b = bound_of c.args.bound.now in
    let e : c.loop-item.item ≡ length b.trace = (let n = c.requires.plans.count in omega arith) in
    subst (λ z. FitsAmong b c.args.ranks.now size (each_below (λ k. awaited_item b c.args.ranks.now k ∷ []) z) c.args.lines.now c.loop-item.lines []) e (c.loop-item.invariant size)
