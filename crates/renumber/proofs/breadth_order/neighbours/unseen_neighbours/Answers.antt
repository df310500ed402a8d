use Rattle.std.proofs.Common.{◌≡◌, ◌≢◌, ◌<◌, ◌&&◌, not, ℕ, true, false, rules, nat_eq, List, length, get_or, arith, ap, sym, ◌∙◌, ⊎_elim, subst}
use Rattle.std.specs.List.{All}
use Rattle.std.proofs.lemmas.Bool.{and_parts, and_from, cases_eq, eq-eqb, ne_eqb}
use Rattle.std.proofs.lemmas.List.{get_or_default}
use Rattle.std.proofs.lemmas.List.Sorted.{IsNonDecreasingBy-from_sort_by_key, All-permutation, Contains-permutation}
use Rattle.mesh_decl.specs.Mesh.{MeshValue, set_size, map_from}
use Rattle.lemmas.specs.Below.{any_below}
use Rattle.lemmas.proofs.Below.{any_from, any_witness}
use Rattle.renumber.specs.Keys.{keyed}
use Rattle.renumber.specs.Neighbours.{has_target, are_neighbours, havers}
use Rattle.renumber.proofs.breadth_order.Having.{haver_at, haver_has}
use Rattle.renumber.proofs.breadth_order.neighbours.unseen_neighbours.Goals as goal

-- an element that one of those that have x as a target has too is x's neighbour
is_near : (g : MeshValue) (m x y k : ℕ) (having : List ℕ) → having ≡ havers g m (set_size g (map_from g m)) x → k < length having
    → has_target g m (get_or having k 0) y ≡ true → y ≢ x → are_neighbours g m x y ≡ true
unfolding are_neighbours
is_near g m x y k having e l t d =
    let n : ℕ = set_size g (map_from g m) in
    let r : get_or having k 0 ≡ get_or (havers g m n x) k 0 = ap (λ (z : List ℕ). get_or z k 0) e in
    let h = haver_at g m n x k (subst (λ (z : List ℕ). k < length z) e l) in
    and_from (any_below n (λ e. has_target g m e y && has_target g m e x)) (not (nat_eq x y))
    (any_from n (λ e. has_target g m e y && has_target g m e x) (get_or (havers g m n x) k 0) h.0
    (and_from (has_target g m (get_or (havers g m n x) k 0) y) (has_target g m (get_or (havers g m n x) k 0) x) (subst (λ z. has_target g m z y ≡ true) r t) h.1))
    (ap (λ z. not z) (ne_eqb x y (λ s. d (sym s))))

-- x's neighbour is a target of one of those that have x as a target
has_near : (g : MeshValue) (m x y : ℕ) (having : List ℕ) → having ≡ havers g m (set_size g (map_from g m)) x → are_neighbours g m x y ≡ true
    → (k : ℕ) × (k < length having) × (has_target g m (get_or having k 0) y ≡ true) × (y ≢ x)
unfolding are_neighbours
has_near g m x y having e t =
    let n : ℕ = set_size g (map_from g m) in
    let a = and_parts (any_below n (λ e. has_target g m e y && has_target g m e x)) (not (nat_eq x y)) t in
    let w = any_witness n (λ e. has_target g m e y && has_target g m e x) a.0 in
    let b = and_parts (has_target g m w.0 y) (has_target g m w.0 x) w.2 in
    let k = haver_has g m n x w.0 w.1 b.1 in
    let r : get_or having k.0 0 ≡ w.0 = ap (λ (z : List ℕ). get_or z k.0 0) e ∙ (get_or_default (havers g m n x) k.0 0 w.0 k.1 ∙ k.2) in (
      k.0,
      subst (λ (z : List ℕ). k.0 < length z) (sym e) k.1,
      subst (λ z. has_target g m z y ≡ true) (sym r) b.0,
      λ s. (let q : not (nat_eq x y) ≡ false = ap (λ z. not z) (eq-eqb x y (sym s)) in let u : true ≡ false = sym a.1 ∙ q in cc),
    )

pub push_unseen-requires-clause-element : goal.push_unseen-requires-clause-element
push_unseen-requires-clause-element c =
    let g = c.args.mesh.now in
    let m : ℕ = c.args.map in
    let n : ℕ = set_size g (map_from g m) in
    let x : ℕ = c.args.element in
    let j : ℕ = c.loop-having.having-index in
    let row : c.row-having-items.result.now ≡ havers g m n x = c.row-having-items.ensures ∙ c.requires.by.row x c.requires.element in
    subst (λ (z : List ℕ). get_or z j 0 < n) (sym row) (haver_at g m n x j (subst (λ (z : List ℕ). j < length z) row c.loop-having-test.true)).0

pub loop-having-preserved : goal.loop-having-preserved
loop-having-preserved c =
    let g = c.args.mesh.now in
    let m : ℕ = c.args.map in
    let x : ℕ = c.args.element in
    let j : ℕ = c.loop-having.having-index in
    let having = c.row-having-items.result.now in
    let inv = c.loop-having.invariant in
    let ens = c.in_ok-push_unseen.ensures in
    let row : having ≡ havers g m (set_size g (map_from g m)) x = c.row-having-items.ensures ∙ c.requires.by.row x c.requires.element in
    record {
      near = λ y k. ⊎_elim
          (λ o. inv.near y o)
          (λ (h : (has_target g m (get_or having j 0) y ≡ true) × (y ≢ x)). is_near g m x y j having row c.loop-having-test.true h.0 h.1)
          (ens.new y k);
      all = λ k y l t d f. ⊎_elim
          (λ (s : k ≡ j). ens.all y (subst (λ z. has_target g m (get_or having z 0) y ≡ true) s t) d f)
          (λ (s : k ≡ j → ⊥). ens.kept y (inv.all k y (omega (arith, l, s)) t d f))
          (cases_eq k j);
    }

pub returns : goal.returns
returns c =
    let g = c.args.mesh.now in
    let m : ℕ = c.args.map in
    let x : ℕ = c.args.element in
    let having = c.row-having-items.result.now in
    let old = c.loop-having.found.items in
    let new = c.sort_unstable_by_key.new.self.items in
    let inv = c.loop-having.invariant in
    let row : having ≡ havers g m (set_size g (map_from g m)) x = c.row-having-items.ensures ∙ c.requires.by.row x c.requires.element in
    let all : All (λ y. are_neighbours g m x y ≡ true) new =
    All-permutation (λ y. are_neighbours g m x y ≡ true) old new c.sort_unstable_by_key.ensures.permutation
    (λ k d l. inv.near (get_or old k d) (k, l, get_or_default old k (get_or old k d) d l)) in
    let sorted = IsNonDecreasingBy-from_sort_by_key (keyed c.args.keys.now) new c.sort_unstable_by_key.ensures.sorted (λ a r q k. search rules) in
    record {
      near = λ k l. all k 0 l;
      all = λ y t f. (let w = has_near g m x y having row t in Contains-permutation old new y c.sort_unstable_by_key.ensures.permutation (inv.all w.0 y (omega (arith, w.1)) w.2 w.3 f));
      rises = λ i j le l. sorted i j 0 le l;
    }
