use Rattle.std.proofs.Common.{◌++◌, ◌∷◌, [], refl, ap, arith, rules}
use Rattle.std.proofs.lemmas.Bool.{false≢true}
use Rattle.std.proofs.lemmas.List.{length-map}
use Rattle.bound_program.specs.Values.{item_of, bound_of}
use Rattle.checkpoint.specs.Reading.{Item}
use Rattle.checkpoint.proofs.state_texts.Judging.{next_line, fits_one, refused_here}
use Rattle.checkpoint.proofs.state_texts.OneLine.{line_taken}
use Rattle.checkpoint.proofs.state_texts.ItemLines.{item_missing, item_other, item_uncut}
use Rattle.checkpoint.proofs.state_texts.lines.take_item.Goals as goal

pub returns-in_default : goal.returns-in_default
returns-in_default c = λ k. (
  0,
  next_line c.args.lines.now c.taken.result c.from-number.result c.taken.ensures.taken c.from-number.ensures,
  refused_here (bound_of c.args.bound.now) k Item c.args.lines.now 2 (item_missing (bound_of c.args.bound.now) c.args.lines.now c.in_default.ensures.0),
)

pub returns-in_default-told_item : goal.returns-in_default-told_item
returns-in_default-told_item c = λ k. (
  0,
  next_line c.args.lines.now c.taken.result c.from-number.result c.taken.ensures.taken c.from-number.ensures,
  refused_here (bound_of c.args.bound.now) k Item c.args.lines.now 2
      (item_other (bound_of c.args.bound.now) c.args.lines.now c.next.new.self c.in-Some.line.now c.in-Some.ensures
      (omega (arith, length-map c.args.bound.now.trace.items item_of, c.requires)) c.in_default-told_item.ensures.item),
)

pub returns-then-not-can_cut : goal.returns-then-not-can_cut
returns-then-not-can_cut c = λ k. (
  0,
  next_line c.args.lines.now c.taken.result c.from-number.result c.taken.ensures.taken c.from-number.ensures,
  refused_here (bound_of c.args.bound.now) k Item c.args.lines.now 2
      (item_uncut (bound_of c.args.bound.now) c.args.lines.now c.next.new.self c.in-Some.line.now c.in-Some.ensures
      (omega (arith, length-map c.args.bound.now.trace.items item_of, c.requires)) c.number_is_read.ensures c.in-Some-told_item.item
      (let l = c.in-Some-told_item.ensures.small in omega arith) c.in-Some-told_item.ensures.item (λ can. false≢true (c.if-not-can_cut.ensures.1 can))),
)

pub returns : goal.returns
returns c = fits_one (bound_of c.args.bound.now) c.in-Some-told_item.item Item c.args.lines.now c.next.new.self (c.in-Some.line.now ++ 10 ∷ []) []
    (line_taken c.args.lines.now c.next.new.self c.in-Some.line.now c.in-Some.ensures)
    (record { can_cut = search rules; is = ap (λ z. z ++ 10 ∷ []) c.in-Some-told_item.ensures.item }, refl)
