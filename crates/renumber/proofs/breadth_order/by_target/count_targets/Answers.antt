use Rattle.std.proofs.Common.{◌≡◌, ◌<◌, ◌+◌, ℕ, nat_eq, length, get_or, arith, ap, ◌∙◌, refl}
use Rattle.mesh_decl.specs.Mesh.{map_dim, target}
use Rattle.lemmas.specs.Below.{count_below}
use Rattle.renumber.specs.Neighbours.{times}
use Rattle.renumber.proofs.breadth_order.Near.{count_within}
use Rattle.renumber.proofs.breadth_order.Having.{counted}
use Rattle.renumber.proofs.breadth_order.by_target.count_targets.Goals as goal

pub overflow_add-counts : goal.overflow_add-counts
overflow_add-counts c =
    let g = c.args.mesh.now in
    let m : ℕ = c.args.map in
    let t : ℕ = c.target-target.result in
    let lt : t < length c.args.counts.now = omega (arith, c.target-target.ensures.within, c.requires.counts) in
    let ld : c.loop-place.place < map_dim g m = omega (arith, c.loop-place-test.true, ap (λ z. z.2) c.map_ends-dim.ensures) in
    let w = count_within c.loop-place.place (λ i. nat_eq (target g m c.args.element i) t) in
    let v = c.loop-place.invariant t lt in
    let few = c.requires.few t lt in
    omega (arith, w, v, few, ld)

pub loop-place-preserved : goal.loop-place-preserved
loop-place-preserved c =
    let t : ℕ = c.target-target.result in
    let lt : t < length c.loop-place.counts = omega (arith, c.target-target.ensures.within, c.requires.counts, c.loop-place.auto.counts) in
    λ x l. counted c.loop-place.counts c.args.counts.now t t x c.loop-place.place (λ i. target c.args.mesh.now c.args.map c.args.element i)
    lt refl c.target-target.ensures.value c.loop-place.invariant l (omega (arith, lt, c.loop-place.auto.counts))

pub returns : goal.returns
unfolding times
returns c = λ x l.
    let e : c.loop-place.place ≡ map_dim c.args.mesh.now c.args.map = omega (arith, ap (λ z. z.2) c.map_ends-dim.ensures) in
    c.loop-place.invariant x l ∙ ap (λ z. get_or c.args.counts.now x 0 + count_below z (λ i. nat_eq (target c.args.mesh.now c.args.map c.args.element i) x)) e
