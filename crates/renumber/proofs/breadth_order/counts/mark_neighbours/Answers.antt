use Rattle.std.proofs.Common.{◌≡◌, ◌+◌, ◌&&◌, ◌||◌, not, ℕ, nat_eq, length, get_or, arith, ap, sym, ◌∙◌, subst}
use Rattle.std.proofs.lemmas.Bool.{ne_eqb}
use Rattle.lemmas.specs.Below.{any_below, count_below}
use Rattle.lemmas.proofs.Below.{any_more, count_agree}
use Rattle.renumber.specs.Neighbours.{has_target}
use Rattle.renumber.proofs.breadth_order.Near.{count_within}
use Rattle.renumber.proofs.breadth_order.Marking.{count_none}
use Rattle.renumber.proofs.breadth_order.counts.mark_neighbours.Goals as goal
use Rattle.lemmas.proofs.Truth.{or_and_right}

pub loop-element-init : goal.loop-element-init
loop-element-init c =
    let last = c.args.last.now in
    let x : ℕ = c.args.number in
    record {
      count = sym (count_none (length last) (λ y. nat_eq (get_or last y 0) x) (λ y l. ne_eqb (get_or last y 0) x (c.requires.none y l)));
      marks = λ y l. ne_eqb (get_or last y 0) x (c.requires.none y l);
      others = λ y z n e. e;
    }

pub overflow_add-count : goal.overflow_add-count
overflow_add-count c =
    let last = c.args.last.now in
    let r : ℕ = c.mark_targets-count.result in
    let p = λ (y : ℕ). nat_eq (get_or c.loop-element.last y 0) c.args.number in
    let q = λ (y : ℕ). nat_eq (get_or c.mark_targets-count.new.last y 0) c.args.number in
    let e : r + count_below (length last) p ≡ count_below (length last) q = subst (λ z. r + count_below z p ≡ count_below z q) c.loop-element.auto.last c.mark_targets-count.ensures.count in
    let w = count_within (length last) q in
    omega (arith, w, e, c.loop-element.invariant.count, c.requires.few, c.requires.last)

pub loop-element-preserved : goal.loop-element-preserved
loop-element-preserved c =
    let g = c.args.mesh.now in
    let m : ℕ = c.args.map in
    let last = c.args.last.now in
    let x : ℕ = c.args.number in
    let having = c.args.having.now in
    let j : ℕ = c.loop-element.element-index in
    let inv = c.loop-element.invariant in
    let n : length c.loop-element.last ≡ length last = c.loop-element.auto.last in
    let r : ℕ = c.mark_targets-count.result in
    let p = λ (y : ℕ). nat_eq (get_or c.loop-element.last y 0) c.args.number in
    let q = λ (y : ℕ). nat_eq (get_or c.mark_targets-count.new.last y 0) c.args.number in
    let e : r + count_below (length last) p ≡ count_below (length last) q = subst (λ z. r + count_below z p ≡ count_below z q) c.loop-element.auto.last c.mark_targets-count.ensures.count in
    let a : c.loop-element.count + r ≡ r + count_below (length last) p = omega (arith, inv.count) in
    record {
      count = a ∙ e;
      marks = λ y l. (
          let h = λ (k : ℕ). has_target g m (get_or having k 0) y in
          c.mark_targets-count.ensures.marks y (omega (arith, n, l))
          ∙ (ap (λ z. z || (h j && not (nat_eq x y))) (inv.marks y l)
          ∙ (or_and_right (any_below j h) (h j) (not (nat_eq x y))
          ∙ ap (λ z. z && not (nat_eq x y)) (sym (any_more j h)))));
      others = λ y z d e. inv.others y z d (c.mark_targets-count.ensures.others y z d e);
    }

pub returns-clause-count : goal.returns-clause-count
returns-clause-count c =
    let last = c.args.last.now in
    let having = c.args.having.now in
    let e : c.loop-element.element-index ≡ length having = omega arith in
    c.loop-element.invariant.count ∙ count_agree (length last) (λ y. nat_eq (get_or c.loop-element.last y 0) c.args.number)
    (λ y. any_below (length having) (λ k. has_target c.args.mesh.now c.args.map (get_or having k 0) y) && not (nat_eq c.args.number y))
    (λ y l. c.loop-element.invariant.marks y l ∙ ap (λ z. any_below z (λ k. has_target c.args.mesh.now c.args.map (get_or having k 0) y) && not (nat_eq c.args.number y)) e)
