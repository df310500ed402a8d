-- Lists of owners gathered by a test, and the votes in them.
use Rattle.std.proofs.Common.{◌≡◌, ℕ, zero, suc, ◌+◌, ◌<◌, ◌≤◌, ◌/◌, ◌&&◌, Bool, true, false, cond, nat_eq, count_by, List, [], ◌∷◌, ◌++◌, length, get_or, refl, sym, ap, ◌∙◌, arith, ⊎_elim, append-nil}
use Rattle.std.proofs.lemmas.Bool.{cases_Bool, cases_lt}
use Rattle.std.proofs.lemmas.List.{length_push, get_or_push, get_or_append_left}
use Rattle.std.proofs.lemmas.List.Sums.{sum_by-append}
use Rattle.mesh_decl.specs.Mesh.{MeshValue, map_dim, target}
use Rattle.lemmas.specs.Below.{any_below, count_below}
use Rattle.lemmas.proofs.Below.{any_witness, count_lt}
use Rattle.partition.specs.Elected.{IsElected, gathered, target_votes, naming_votes, names, is_named, entries}
use Rattle.partition.proofs.Firsts.{none_passes}

pub elected_agree : (n : ℕ) (v w : ℕ → ℕ) (r : ℕ) → ((q : ℕ) → q < n → v q ≡ w q) → IsElected n v r → IsElected n w r
elected_agree n v w r a h =
    let l : r < n = h.within in
    let e : v r ≡ w r = a r l in
    record {
      within = l;
      most = λ q lq. (let f : v q ≡ w q = a q lq in let m : v q ≤ v r = h.most q lq in omega (arith, e, f, m));
      first = λ q lq. (let f : v q ≡ w q = a q (omega (arith, l, lq)) in let m : v q < v r = h.first q lq in omega (arith, e, f, m));
    }

pub gathered_below : (n : ℕ) (p : ℕ → Bool) (f : ℕ → ℕ) (b : ℕ) → ((i : ℕ) → i < n → f i < b) → (k : ℕ) → k < length (gathered n p f) → get_or (gathered n p f) k 0 < b
gathered_below zero p f b h k l = absurd (omega (arith, l))
gathered_below (suc n) p f b h k l = ⊎_elim
    (λ (m : k < length (gathered n p f)). rw (get_or_append_left (gathered n p f) (cond (p n) (f n ∷ []) []) 0 k m) (gathered_below n p f b (λ i li. h i (omega (arith, li))) k m))
    (λ (m : length (gathered n p f) ≤ k). ⊎_elim
    (λ (e : p n ≡ true).
    let lp : k < length (gathered n p f) + 1 = rw (sym (length_push (gathered n p f) (f n))) (rw e at l) in
    let q : length (gathered n p f) ≡ k = omega (arith, m, lp) in
    rw (e, get_or_push (gathered n p f) (f n) 0 k q) (h n (omega arith)))
    (λ (e : p n ≡ false).
    let lp : k < length (gathered n p f) = rw (sym (append-nil (gathered n p f))) (rw e at l) in
    absurd (omega (arith, m, lp)))
    (cases_Bool (p n)))
    (cases_lt k (length (gathered n p f)))

pub length_gathered : (n : ℕ) (p : ℕ → Bool) (f : ℕ → ℕ) → length (gathered n p f) ≡ count_below n p
length_gathered zero p f = refl
length_gathered (suc n) p f = ⊎_elim
    (λ (e : p n ≡ true). rw (e, length_push (gathered n p f) (f n), length_gathered n p f) refl)
    (λ (e : p n ≡ false). rw (e, append-nil (gathered n p f), length_gathered n p f) (omega arith))
    (cases_Bool (p n))

count_step : (xs : List ℕ) (y : ℕ) (q : ℕ → Bool) → count_by q (xs ++ y ∷ []) ≡ count_by q xs + cond (q y) 1 0
count_step xs y q = sum_by-append (λ x. cond (q x) 1 0) xs (y ∷ []) ∙ omega arith

pub count_gathered : (n : ℕ) (p : ℕ → Bool) (f : ℕ → ℕ) (q : ℕ → Bool) → count_by q (gathered n p f) ≡ count_below n (λ e. p e && q (f e))
count_gathered zero p f q = refl
count_gathered (suc n) p f q = ⊎_elim
    (λ (e : p n ≡ true). rw e (count_step (gathered n p f) (f n) q ∙ ap (λ (z : ℕ). z + cond (q (f n)) 1 0) (count_gathered n p f q)))
    (λ (e : p n ≡ false). rw e (ap (λ (z : List ℕ). count_by q z) (append-nil (gathered n p f)) ∙ (count_gathered n p f q ∙ omega arith)))
    (cases_Bool (p n))

none_counted : (n : ℕ) (p : ℕ → Bool) → ((j : ℕ) → j < n → p j ≡ false) → count_below n p ≡ 0
none_counted zero p h = refl
none_counted (suc n) p h = rw (h n (omega arith), none_counted n p (λ j l. h j (omega (arith, l)))) refl

pub gathered_some : (n : ℕ) (p : ℕ → Bool) (f : ℕ → ℕ) → any_below n p ≡ true → 0 < length (gathered n p f)
gathered_some n p f h =
    let w = any_witness n p h in
    let l : count_below w.0 p < count_below n p = count_lt w.0 n p w.1 w.2 in
    rw (length_gathered n p f) (omega (arith, l))

pub gathered_none : (n : ℕ) (p : ℕ → Bool) (f : ℕ → ℕ) → any_below n p ≡ false → length (gathered n p f) ≡ 0
gathered_none n p f h = length_gathered n p f ∙ none_counted n p (none_passes n p h)

-- the rank elected from the list of a target's owners
pub target_elected : (g : MeshValue) (owners : List ℕ) (m x ranks r : ℕ) (xs : List ℕ)
    → xs ≡ gathered (map_dim g m) (λ i. true) (λ i. get_or owners (target g m x i) 0)
    → IsElected ranks (λ q. count_by (λ y. nat_eq y q) xs) r → IsElected ranks (target_votes g owners m x) r
unfolding target_votes
target_elected g owners m x ranks r xs e h = elected_agree ranks _ _ r
    (λ q l. ap (λ (z : List ℕ). count_by (λ y. nat_eq y q) z) e
    ∙ count_gathered (map_dim g m) (λ i. true) (λ i. get_or owners (target g m x i) 0) (λ y. nat_eq y q)) h

-- the rank elected from the list of the owners that name an element
pub naming_elected : (g : MeshValue) (owners : List ℕ) (m y ranks r : ℕ) (xs : List ℕ)
    → xs ≡ gathered (entries g m) (names g m y) (λ e. get_or owners (e / map_dim g m) 0)
    → (0 < length xs → IsElected ranks (λ q. count_by (λ z. nat_eq z q) xs) r) → is_named g m y ≡ true
    → IsElected ranks (naming_votes g owners m y) r
unfolding naming_votes is_named
naming_elected g owners m y ranks r xs e h t =
    let some : 0 < length xs = rw e (gathered_some (entries g m) (names g m y) (λ e. get_or owners (e / map_dim g m) 0) t) in
    elected_agree ranks _ _ r (λ q l. ap (λ (z : List ℕ). count_by (λ x. nat_eq x q) z) e
    ∙ count_gathered (entries g m) (names g m y) (λ e. get_or owners (e / map_dim g m) 0) (λ x. nat_eq x q)) (h some)

pub unnamed_empty : (g : MeshValue) (owners : List ℕ) (m y : ℕ) (xs : List ℕ)
    → xs ≡ gathered (entries g m) (names g m y) (λ e. get_or owners (e / map_dim g m) 0) → is_named g m y ≡ false → length xs ≡ 0
unfolding is_named
unnamed_empty g owners m y xs e t = ap (length {A = ℕ}) e ∙ gathered_none (entries g m) (names g m y) (λ e. get_or owners (e / map_dim g m) 0) t
