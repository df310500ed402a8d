use Rattle.std.proofs.Common.{◌≡◌, ◌<◌, ◌&&◌, ◌||◌, not, ℕ, nat_eq, length, get_or, set, arith, ap, refl, ◌∙◌}
use Rattle.mesh_decl.specs.Mesh.{map_dim, target}
use Rattle.lemmas.specs.Below.{any_below}
use Rattle.renumber.specs.Neighbours.{has_target}
use Rattle.renumber.proofs.breadth_order.Near.{count_within}
use Rattle.renumber.proofs.breadth_order.Marking.{count_set, marks_set, marks_kept, others_set}
use Rattle.renumber.proofs.breadth_order.counts.mark_targets.Goals as goal
use Rattle.renumber.proofs.breadth_order.counts.mark_targets.Goals.{then-target-number+then-last-target, else-target-number, else-target-number-via-then-target-number+else-last-target, else-target-number-via-else-target-number}

pub returns-clause-marks : goal.returns-clause-marks
unfolding has_target
returns-clause-marks c = λ y l.
    let e : c.loop-place.place ≡ map_dim c.args.mesh.now c.args.map = omega (arith, ap (λ z. z.2) c.map_ends-dim.ensures) in
    c.loop-place.invariant.marks y l ∙ ap
    (λ z. nat_eq (get_or c.args.last.now y 0) c.args.number ||
    (any_below z (λ i. nat_eq (target c.args.mesh.now c.args.map c.args.element i) y) && not (nat_eq c.args.number y))) e

-- one more mark is one more element
pub overflow_add-count : goal.overflow_add-count
overflow_add-count c =
    let last = c.loop-place.last in
    let n : ℕ = length c.args.last.now in
    let t : ℕ = c.target-target.result in
    let x : ℕ = c.args.number in
    let lt : t < n = omega (arith, c.target-target.ensures.within, c.requires.last) in
    let a = count_set last t x n lt (omega (arith, c.loop-place.auto.last)) (λ s. absurd (omega (arith, s, c.if-last-target.true))) in
    let w = count_within n (λ y. nat_eq (get_or (set last t x) y 0) x) in
    omega (arith, a, w, c.loop-place.invariant.count, c.requires.few, c.requires.last)

pub loop-place-preserved : goal.loop-place-preserved
loop-place-preserved c =
    let last = c.loop-place.last in
    let initial = c.args.last.now in
    let n : ℕ = c.loop-place.place in
    let t : ℕ = c.target-target.result in
    let x : ℕ = c.args.number in
    let p = λ (i : ℕ). target c.args.mesh.now c.args.map c.args.element i in
    let inv = c.loop-place.invariant in
    let li : t < length initial = omega (arith, c.target-target.ensures.within, c.requires.last) in
    let lt : t < length last = omega (arith, li, c.loop-place.auto.last) in
    elim c.if-target-number.branch [
      | then-target-number+then-last-target w ↦
          (let a = count_set last t x (length initial) li (omega (arith, c.loop-place.auto.last)) (λ s. absurd (omega (arith, s, w.if-last-target.true))) in
          rw (w.last-is, w.count-is) (record {
            count = omega (arith, a, inv.count);
            marks = λ y l. marks_set last initial t t x n y p lt refl c.target-target.ensures.value (λ s. absurd (omega (arith, s, w.if-target-number.true))) (inv.marks y l);
            others = others_set last initial t x lt inv.others;
          }))
      | else-target-number w ↦
          rw (w.last-is, w.count-is) (record {
            count = inv.count;
            marks = λ y l. marks_kept last initial t t x n y p refl c.target-target.ensures.value
                (λ s. elim w.else-target-number.branch [
                  | else-target-number-via-then-target-number+else-last-target w' ↦ omega (arith, w'.if-last-target.false)
                  | else-target-number-via-else-target-number w' ↦ absurd (s (omega (arith, w'.if-target-number.false)))
                ]) (inv.marks y l);
            others = inv.others;
          })
    ]
