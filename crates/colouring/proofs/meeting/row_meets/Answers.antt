use Rattle.std.proofs.Common.{◌≡◌, ◌<◌, ℕ, length, get_or, arith, refl, sym, ◌∙◌, subst}
use Rattle.std.proofs.lemmas.Bool.{true≢false}
use Rattle.colouring.proofs.Marking.{Seen, AreMarked, none_seen, one_more_marked, met_before, none_met_more, mark_of_row, seen_has, has_seen, row_marked}
use Rattle.colouring.proofs.meeting.row_meets.Goals as goal

pub loop-k-init : goal.loop-k-init
loop-k-init c = record {
  marks = none_seen c.args.targets.now c.min-start.result c.args.row c.args.marks.now;
  clear = λ t s h. (let a = s.1 in let b = s.2 in omega arith);
}

pub is_met-requires-clause-mark : goal.is_met-requires-clause-mark
is_met-requires-clause-mark c =
    let within : get_or c.args.targets.now c.loop-k.k 0 < length c.args.marks.now = c.requires.targets c.loop-k.k (omega arith) in
    mark_of_row c.args.targets.now c.min-start.result c.loop-k.k c.args.row (get_or c.args.targets.now c.loop-k.k 0)
    (length c.args.colours.now) c.args.marks.now c.loop-k.marks within c.requires.row c.requires.marks c.loop-k.invariant.marks

pub returns-then-is_met-clause-found : goal.returns-then-is_met-clause-found
returns-then-is_met-clause-found c = λ _.
    let t : ℕ = get_or c.args.targets.now c.loop-k.k 0 in
    let within : t < length c.args.marks.now = c.requires.targets c.loop-k.k (omega arith) in (
      t,
      seen_has c.args.targets.now c.args.width c.args.row c.min-start.result c.min-end.result t c.min-start.ensures c.min-end.ensures (c.loop-k.k, c.loop-k.auto.k, c.loop-k-test.true, refl),
      met_before c.args.targets.now c.args.colours.now c.min-start.result c.loop-k.k c.args.first c.args.row t c.args.marks.now
          c.loop-k.marks within c.loop-k.invariant.marks (c.is_met.ensures.0 c.if-is_met.true),
    )

pub loop-k-preserved : goal.loop-k-preserved
loop-k-preserved c =
    let within : get_or c.args.targets.now c.loop-k.k 0 < length c.args.marks.now = c.requires.targets c.loop-k.k (omega arith) in
    record {
      marks = one_more_marked c.args.targets.now c.min-start.result c.loop-k.k c.args.row c.args.marks.now c.loop-k.marks c.loop-k.auto.k within c.loop-k.auto.marks c.loop-k.invariant.marks;
      clear = none_met_more c.args.targets.now c.args.colours.now c.min-start.result c.loop-k.k c.args.first c.args.row c.args.marks.now
          c.loop-k.marks within c.loop-k.invariant.marks c.loop-k.invariant.clear
          (λ h. true≢false (sym (c.is_met.ensures.1 h) ∙ c.if-is_met.false));
    }

pub returns-clause-clear : goal.returns-clause-clear
returns-clause-clear c = λ _ t h.
    let e : c.min-end.result ≡ c.loop-k.k = (let a = c.min-start.ensures in let b = c.min-end.ensures in let f = c.loop-k.auto.k-end (omega arith) in let g = c.loop-k-test.false in omega arith) in
    c.loop-k.invariant.clear t (subst (λ z. Seen c.args.targets.now c.min-start.result z t) e
    (has_seen c.args.targets.now c.args.width c.args.row c.min-start.result c.min-end.result t c.min-start.ensures c.min-end.ensures h))

pub returns-clause-marks : goal.returns-clause-marks
returns-clause-marks c = λ _.
    let e : c.loop-k.k ≡ c.min-end.result = (let a = c.min-start.ensures in let b = c.min-end.ensures in let f = c.loop-k.auto.k-end (omega arith) in let g = c.loop-k-test.false in omega arith) in
    row_marked c.args.targets.now c.args.width c.args.row c.min-start.result c.min-end.result c.args.marks.now c.loop-k.marks c.min-start.ensures c.min-end.ensures
    (subst (λ z. AreMarked c.args.targets.now c.min-start.result z c.args.row c.args.marks.now c.loop-k.marks) e c.loop-k.invariant.marks)
