use Rattle.std.proofs.Common.{◌≡◌, ◌<◌, ◌≤◌, ◌+◌, ◌++◌, ◌∷◌, [], ℕ, List, nat_eq, length, replicate, get_or, arith, ap, sym, refl, ◌∙◌}
use Rattle.std.proofs.lemmas.List.{length-set, length-append, length-replicate}
use Rattle.std.proofs.lemmas.Bool.{eq-eqb}
use Rattle.mesh_decl.specs.Mesh.{MeshValue, map_dim, target}
use Rattle.lemmas.specs.Below.{count_below}
use Rattle.lemmas.proofs.Below.{count_lt}
use Rattle.renumber.specs.Neighbours.{times}
use Rattle.renumber.proofs.breadth_order.Having.{rowed}
use Rattle.renumber.proofs.breadth_order.by_target.add_to_targets.Goals as goal

-- the row of a target has room for one more
room_left : (g : MeshValue) (m e n t v room : ℕ) (row initial : List ℕ) → n < map_dim g m → t ≡ target g m e n
    → row ≡ initial ++ replicate (count_below n (λ i. nat_eq (target g m e i) t)) v → length initial + times g m e t ≤ room
    → length row < room
unfolding times
room_left g m e n t v room row initial l q r h =
    let p = λ (i : ℕ). nat_eq (target g m e i) t in
    let c = count_lt n (map_dim g m) p l (eq-eqb (target g m e n) t (sym q)) in
    let a = length-append initial (replicate (count_below n p) v) in
    let b = length-replicate (count_below n p) v in
    let s = ap (length {A = ℕ}) r in
    omega (arith, a, b, c, s, h)

pub push-requires-clause-within : goal.push-requires-clause-within
push-requires-clause-within c = omega (arith, c.target-target.ensures.within, c.requires.rows, c.loop-place.invariant.count)

pub push-requires-clause-room : goal.push-requires-clause-room
push-requires-clause-room c =
    let g = c.args.mesh.now in
    let m : ℕ = c.args.map in
    let t : ℕ = c.target-target.result in
    let inv = c.loop-place.invariant in
    let lt : t < length c.args.filling.now.rows = omega (arith, c.target-target.ensures.within, c.requires.rows) in
    let ld : c.loop-place.place < map_dim g m = omega (arith, c.loop-place-test.true, ap (λ z. z.2) c.map_ends-dim.ensures) in
    let r : get_or c.loop-place.filling.room t 0 ≡ get_or c.args.filling.now.room t 0 = ap (λ (z : List ℕ). get_or z t 0) inv.room in
    rw r (room_left g m c.args.element c.loop-place.place t c.args.element (get_or c.args.filling.now.room t 0)
    (get_or c.loop-place.filling.rows t []) (get_or c.args.filling.now.rows t []) ld c.target-target.ensures.value (inv.rows t lt)
    (c.requires.room t lt))

pub loop-place-preserved : goal.loop-place-preserved
loop-place-preserved c =
    let t : ℕ = c.target-target.result in
    let inv = c.loop-place.invariant in
    let rows = c.loop-place.filling.rows in
    let lt : t < length rows = omega (arith, c.target-target.ensures.within, c.requires.rows, inv.count) in
    rw c.push.ensures (record {
      count = length-set rows t (get_or rows t [] ++ c.args.element ∷ []) ∙ inv.count;
      room = inv.room;
      rows = λ x l. rowed rows c.args.filling.now.rows t t c.args.element x c.loop-place.place
          (λ i. target c.args.mesh.now c.args.map c.args.element i) lt refl c.target-target.ensures.value inv.rows l;
    })

pub returns-clause-rows : goal.returns-clause-rows
unfolding times
returns-clause-rows c = λ x l.
    let e : c.loop-place.place ≡ map_dim c.args.mesh.now c.args.map = omega (arith, ap (λ z. z.2) c.map_ends-dim.ensures) in
    c.loop-place.invariant.rows x l ∙ ap (λ z. get_or c.args.filling.now.rows x [] ++ replicate (count_below z (λ i. nat_eq (target c.args.mesh.now c.args.map c.args.element i) x)) c.args.element) e
