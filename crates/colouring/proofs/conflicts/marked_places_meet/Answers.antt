use Rattle.std.proofs.Common.{◌≡◌, ◌<◌, ◌≤◌, ◌+◌, ◌*◌, ◌⊎◌, ◌∙◌, min, length, get_or, arith, ap, sym, subst, refl, inl, ⊎_elim}
use Rattle.std.proofs.lemmas.Bool.{cases_lt, false≢true}
use Rattle.colouring.specs.Rows.{none}
use Rattle.colouring.proofs.Alike.{places_alike, none_alike_more, none_alike_all, marks_before, order_read, order_sorted, order_all, small_rows}
use Rattle.colouring.proofs.conflicts.marked_places_meet.Goals as goal

pub loop-block-init : goal.loop-block-init
loop-block-init c = record {
  marks = λ t l. inl (c.requires.marks t l);
  apart = λ q p l. absurd (omega arith);
}

pub rows_meet-requires-clause-rows : goal.rows_meet-requires-clause-rows
rows_meet-requires-clause-rows c =
    order_read c.order_rows.new.order.items c.deref.result.now c.bounds-first.result.0 (length c.args.colours.now) c.deref.ensures.value
    (λ a l. (let r = c.in_ok-order_rows.ensures.rows a l in let x = r.1 in let w = c.bounds-first.ensures.within in let n = c.requires.count in (r.0, omega arith)))

pub rows_meet-requires-clause-sorted : goal.rows_meet-requires-clause-sorted
rows_meet-requires-clause-sorted c = order_sorted c.order_rows.new.order.items c.deref.result.now c.args.colours.now c.deref.ensures.value c.in_ok-order_rows.ensures.sorted

pub rows_meet-requires-clause-small : goal.rows_meet-requires-clause-small
rows_meet-requires-clause-small c =
    small_rows (length c.args.colours.now) c.args.width (length c.args.table.now)
    (let s = c.bounds-first.ensures.some in let w = c.bounds-first.ensures.within in let n = c.requires.count in omega arith)
    (c.requires.table ∙ ap (λ n. n * c.args.width) (sym c.requires.count)) c.requires.few

pub rows_meet-requires-clause-marks : goal.rows_meet-requires-clause-marks
rows_meet-requires-clause-marks c = λ t l.
    let first : c.bounds-first.result.0 ≡ c.loop-block.block * c.args.size = ap (λ z. z.0) c.bounds-first.ensures.value in
    subst (λ z. (get_or c.loop-block.marks t 0 ≡ none) ⊎ (get_or c.loop-block.marks t 0 < z)) (sym first) (c.loop-block.invariant.marks t l)

pub returns-then-rows_meet : goal.returns-then-rows_meet
returns-then-rows_meet c =
    let size = c.args.size in
    let b = c.loop-block.block in
    let first : c.bounds-first.result.0 ≡ b * size = ap (λ z. z.0) c.bounds-first.ensures.value in
    let last : c.bounds-first.result.1 ≡ min (b * size + size) c.args.places = ap (λ z. z.1) c.bounds-first.ensures.value in (
      λ _. places_alike c.args.table.now c.args.colours.now c.deref.result.now c.args.width size b c.bounds-first.result.0
          c.bounds-first.result.1 c.args.places c.requires.size first (omega arith) c.bounds-first.ensures.within
          (order_read c.order_rows.new.order.items c.deref.result.now c.bounds-first.result.0 c.bounds-first.result.1 c.deref.ensures.value c.in_ok-order_rows.ensures.rows)
          (c.rows_meet.ensures.found c.if-rows_meet.true),
      λ _. refl,
    )

pub loop-block-preserved : goal.loop-block-preserved
loop-block-preserved c =
    let size = c.args.size in
    let b = c.loop-block.block in
    let first : c.bounds-first.result.0 ≡ b * size = ap (λ z. z.0) c.bounds-first.ensures.value in
    let last : c.bounds-first.result.1 ≡ min (b * size + size) c.args.places = ap (λ z. z.1) c.bounds-first.ensures.value in
    let rows = order_read c.order_rows.new.order.items c.deref.result.now c.bounds-first.result.0 c.bounds-first.result.1 c.deref.ensures.value c.in_ok-order_rows.ensures.rows in
    let all = order_all c.order_rows.new.order.items c.deref.result.now c.bounds-first.result.0 c.bounds-first.result.1 c.deref.ensures.value c.in_ok-order_rows.ensures.all in
    record {
      marks = marks_before c.args.table.now c.deref.result.now c.rows_meet.new.marks c.args.width size b c.bounds-first.result.0 c.bounds-first.result.1 first (omega arith) rows
          (c.rows_meet.ensures.marks c.if-rows_meet.false);
      apart = none_alike_more c.args.table.now c.args.colours.now c.deref.result.now c.args.width size b c.bounds-first.result.0 c.bounds-first.result.1 c.requires.size first
          (last ∙ ap (λ n. min (b * size + size) n) (sym c.requires.count)) all (c.rows_meet.ensures.clear c.if-rows_meet.false) c.loop-block.invariant.apart;
    }

pub returns : goal.returns
returns c = (
  λ e. absurd (false≢true e),
  λ h. absurd (none_alike_all c.args.table.now c.args.colours.now c.args.width c.args.size (c.loop-block.block * c.args.size) c.args.places c.requires.count
      (⊎_elim
      (λ (m : c.loop-block.block * c.args.size < c.args.places). absurd
      (let e : c.count-block-end.result ≤ c.loop-block.block = c.loop-block-test.false in
      let n : c.loop-block.block < c.count-block-end.result = (c.count-block-end.ensures c.loop-block.block).1 m in omega arith))
      (λ (m : c.args.places ≤ c.loop-block.block * c.args.size). m)
      (cases_lt (c.loop-block.block * c.args.size) c.args.places))
      c.loop-block.invariant.apart h),
)
