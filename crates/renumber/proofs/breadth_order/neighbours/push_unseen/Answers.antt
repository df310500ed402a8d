use Rattle.std.proofs.Common.{◌≡◌, ◌≢◌, ◌⊎◌, ◌++◌, ◌∷◌, [], ℕ, Bool, true, false, nat_eq, List, Vec, get_or, arith, ap, sym, ◌∙◌, inl, inr, subst}
use Rattle.std.specs.declared.alloc.Global.{Global}
use Rattle.std.specs.List.{Contains}
use Rattle.std.proofs.lemmas.List.Elements.{Contains-append_left}
use Rattle.mesh_decl.specs.Mesh.{map_dim, target}
use Rattle.lemmas.specs.Below.{any_below}
use Rattle.renumber.specs.Neighbours.{has_target}
use Rattle.renumber.proofs.breadth_order.Gathering.{new_more, has_more, new_push, has_push}
use Rattle.renumber.proofs.breadth_order.neighbours.push_unseen.Goals as goal
use Rattle.renumber.proofs.breadth_order.neighbours.push_unseen.Goals.{then-target-besides+then-not-seen-target+in_ok-push, else-target-besides, else-target-besides-via-then-target-besides+else-not-seen-target, else-target-besides-via-else-target-besides}

pub loop-place-preserved : goal.loop-place-preserved
loop-place-preserved c =
    let p = λ (i : ℕ). target c.args.mesh.now c.args.map c.args.element i in
    let n : ℕ = c.loop-place.place in
    let x : ℕ = c.args.besides in
    let t : ℕ = c.target-target.result in
    let old : List ℕ = c.args.found.now.items in
    let found : List ℕ = c.loop-place.found.items in
    let seen : List Bool = c.args.seen.now in
    let inv = c.loop-place.invariant in
    let q : t ≡ p n = c.target-target.ensures.value in
    elim c.if-target-besides.branch [
      | then-target-besides+then-not-seen-target+in_ok-push w ↦
          (let io : c.if-target-besides.found.items ≡ found ++ t ∷ [] = ap (λ (v : Vec ℕ Global). v.items) w.found-is ∙ w.in_ok-push.ensures.items in
          rw io (record {
            new = new_push p n x t old found q (λ s. absurd (omega (arith, s, w.if-target-besides.true))) inv.new;
            kept = λ y k. Contains-append_left found (t ∷ []) y (inv.kept y k);
            all = has_push p n x t seen found q inv.all;
          }))
      | else-target-besides w ↦
          (let m : (t ≡ x) ⊎ (get_or seen t false ≡ true) = elim w.else-target-besides.branch [
            | else-target-besides-via-then-target-besides+else-not-seen-target w' ↦ inr w'.if-not-seen-target.false
            | else-target-besides-via-else-target-besides w' ↦ inl (omega (arith, w'.if-target-besides.false))
          ] in
          rw w.found-is (record {
            new = new_more p n x old found inv.new;
            kept = inv.kept;
            all = has_more p n x t seen found q m inv.all;
          }))
    ]

pub returns-clause-new : goal.returns-clause-new
unfolding has_target
returns-clause-new c = λ y k.
    let e : c.loop-place.place ≡ map_dim c.args.mesh.now c.args.map = omega (arith, ap (λ z. z.2) c.map_ends-dim.ensures) in
    subst (λ z. Contains c.args.found.now.items y ⊎
    ((any_below z (λ i. nat_eq (target c.args.mesh.now c.args.map c.args.element i) y) ≡ true) × (y ≢ c.args.besides))) e
    (c.loop-place.invariant.new y k)

pub returns-clause-all : goal.returns-clause-all
unfolding has_target
returns-clause-all c = λ y a d f.
    let e : c.loop-place.place ≡ map_dim c.args.mesh.now c.args.map = omega (arith, ap (λ z. z.2) c.map_ends-dim.ensures) in
    c.loop-place.invariant.all y (subst (λ z. any_below z (λ i. nat_eq (target c.args.mesh.now c.args.map c.args.element i) y) ≡ true) (sym e) a) d f
