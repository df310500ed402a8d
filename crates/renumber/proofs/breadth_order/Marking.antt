-- Marks by the number that was written last, and how many there are.
use Rattle.std.proofs.Common.{◌≡◌, ◌≢◌, ℕ, zero, suc, ◌+◌, ◌<◌, ◌≤◌, Bool, true, false, not, ◌&&◌, ◌||◌, cond, nat_eq, List, length, get_or, set, refl, sym, ap, ◌∙◌, arith, ⊎_elim, subst}
use Rattle.std.proofs.lemmas.Bool.{cases_eq, eq-eqb, ne_eqb, and_parts, and_from}
use Rattle.std.proofs.lemmas.List.{get_or-set_same, get_or-set_other, get_or_default}
use Rattle.mesh_decl.specs.Mesh.{MeshValue, set_size, map_from, map_to}
use Rattle.lemmas.specs.Below.{any_below, count_below}
use Rattle.lemmas.proofs.Below.{any_from, any_witness, any_more, count_agree}
use Rattle.renumber.specs.Neighbours.{has_target, are_neighbours, havers}
use Rattle.renumber.specs.Degrees.{degree}
use Rattle.renumber.proofs.breadth_order.Having.{haver_at, haver_has}
use Rattle.lemmas.proofs.Truth.{iff_eq}

-- one more mark
pub count_set : (last : List ℕ) (t x n : ℕ) → t < n → n ≤ length last → get_or last t 0 ≢ x
    → count_below n (λ y. nat_eq (get_or (set last t x) y 0) x) ≡ count_below n (λ y. nat_eq (get_or last y 0) x) + 1
count_set last t x zero l len new = absurd (omega arith)
count_set last t x (suc n) l len new =
    let p : ℕ → Bool = λ y. nat_eq (get_or last y 0) x in
    let q : ℕ → Bool = λ y. nat_eq (get_or (set last t x) y 0) x in
    ⊎_elim
    (λ (e : n ≡ t).
    let here : q n ≡ true = eq-eqb (get_or (set last t x) n 0) x (ap (λ z. get_or (set last t x) z 0) e ∙ get_or-set_same last t x 0 (omega (arith, e, len))) in
    let was : p n ≡ false = ne_eqb (get_or last n 0) x (λ s. new (ap (λ z. get_or last z 0) (sym e) ∙ s)) in
    let below : count_below n q ≡ count_below n p = count_agree n q p (λ k lk. ap (λ z. nat_eq z x) (get_or-set_other last t k x 0 (λ s. absurd (omega (arith, s, e, lk))))) in
    let a : count_below (suc n) q ≡ count_below n q + 1 = ap (λ z. count_below n q + cond {A = ℕ} z 1 0) here in
    let b : count_below (suc n) p ≡ count_below n p + 0 = ap (λ z. count_below n p + cond {A = ℕ} z 1 0) was in
    omega (arith, a, b, below))
    (λ (e : n ≡ t → ⊥).
    let same : q n ≡ p n = ap (λ z. nat_eq z x) (get_or-set_other last t n x 0 e) in
    let a : count_below (suc n) q ≡ count_below n q + cond {A = ℕ} (p n) 1 0 = ap (λ z. count_below n q + cond {A = ℕ} z 1 0) same in
    let h : count_below n q ≡ count_below n p + 1 = count_set last t x n (omega (arith, e, l)) (omega (arith, len)) new in
    let b : count_below (suc n) p ≡ count_below n p + cond {A = ℕ} (p n) 1 0 = refl in
    omega (arith, a, b, h))
    (cases_eq n t)

pub count_none : (n : ℕ) (p : ℕ → Bool) → ((k : ℕ) → k < n → p k ≡ false) → count_below n p ≡ 0
count_none zero p h = refl
count_none (suc n) p h =
    let a : count_below (suc n) p ≡ count_below n p + 0 = ap (λ z. count_below n p + cond {A = ℕ} z 1 0) (h n (omega arith)) in
    let b = count_none n p (λ k l. h k (omega arith)) in
    omega (arith, a, b)

step_other : (a b c d : Bool) → d ≡ false → (a || ((b || d) && c)) ≡ (a || (b && c))
step_other a true c d e = refl
step_other a false c d e = ap (λ z. a || (z && c)) e

step_besides : (a b c d : Bool) → c ≡ false → (a || ((b || d) && c)) ≡ (a || (b && c))
step_besides a b c d e = ap (λ z. a || ((b || d) && z)) e ∙ (go a b d ∙ ap (λ z. a || (b && z)) (sym e))
  where
    go : (a b d : Bool) → (a || ((b || d) && false)) ≡ (a || (b && false))
    go a true d = refl
    go a false true = refl
    go a false false = refl

step_marked : (a b c d : Bool) → (a || (b && c)) ≡ true → (a || ((b || d) && c)) ≡ true
step_marked true b c d e = refl
step_marked false true c d e = e
step_marked false false c d e = let z : false ≡ true = e in cc

step_new : (a b c d : Bool) → c ≡ true → d ≡ true → (a || ((b || d) && c)) ≡ true
step_new true b c d e f = refl
step_new false true c d e f = e
step_new false false c d e f = and_from d c f e

-- which elements a number marks: those that it marked, and all but one of the first n places' targets
abbrev pub Marks : List ℕ → List ℕ → (ℕ → Bool) → ℕ → ℕ → Type 0
Marks last initial p x y = nat_eq (get_or last y 0) x ≡ (nat_eq (get_or initial y 0) x || (p y && not (nat_eq x y)))

-- a target that wasn't marked is
pub marks_set : (last initial : List ℕ) (t u x n y : ℕ) (p : ℕ → ℕ) → t < length last → t ≡ u → u ≡ p n → t ≢ x
    → Marks last initial (λ y. any_below n (λ i. nat_eq (p i) y)) x y
    → Marks (set last t x) initial (λ y. any_below (n + 1) (λ i. nat_eq (p i) y)) x y
marks_set last initial t u x n y p l q r d h =
    let a : Bool = nat_eq (get_or initial y 0) x in
    let b : Bool = any_below n (λ i. nat_eq (p i) y) in
    let c : Bool = not (nat_eq x y) in
    let m : any_below (n + 1) (λ i. nat_eq (p i) y) ≡ (b || nat_eq (p n) y) = any_more n (λ i. nat_eq (p i) y) in
    ⊎_elim
    (λ (e : y ≡ t).
    let here : nat_eq (get_or (set last t x) y 0) x ≡ true = eq-eqb (get_or (set last t x) y 0) x (ap (λ z. get_or (set last t x) z 0) e ∙ get_or-set_same last t x 0 l) in
    let apart : c ≡ true = ap (λ z. not z) (ne_eqb x y (λ s. d (sym (s ∙ e)))) in
    let hit : nat_eq (p n) y ≡ true = eq-eqb (p n) y (sym r ∙ (sym q ∙ sym e)) in
    here ∙ (sym (step_new a b c (nat_eq (p n) y) apart hit) ∙ ap (λ z. a || (z && c)) (sym m)))
    (λ (e : y ≡ t → ⊥).
    let miss : nat_eq (p n) y ≡ false = ne_eqb (p n) y (λ s. e (sym s ∙ (sym r ∙ sym q))) in
    ap (λ z. nat_eq z x) (get_or-set_other last t y x 0 e) ∙ (h ∙ (sym (step_other a b c (nat_eq (p n) y) miss) ∙ ap (λ z. a || (z && c)) (sym m))))
    (cases_eq y t)

-- a target that is the number's element, or is marked, changes nothing
pub marks_kept : (last initial : List ℕ) (t u x n y : ℕ) (p : ℕ → ℕ) → t ≡ u → u ≡ p n → ((t ≡ x → ⊥) → get_or last t 0 ≡ x)
    → Marks last initial (λ y. any_below n (λ i. nat_eq (p i) y)) x y
    → Marks last initial (λ y. any_below (n + 1) (λ i. nat_eq (p i) y)) x y
marks_kept last initial t u x n y p q r d h =
    let a : Bool = nat_eq (get_or initial y 0) x in
    let b : Bool = any_below n (λ i. nat_eq (p i) y) in
    let c : Bool = not (nat_eq x y) in
    let m : any_below (n + 1) (λ i. nat_eq (p i) y) ≡ (b || nat_eq (p n) y) = any_more n (λ i. nat_eq (p i) y) in
    ⊎_elim
    (λ (e : y ≡ t). ⊎_elim
    (λ (s : t ≡ x).
    let besides : c ≡ false = ap (λ z. not z) (eq-eqb x y (sym (e ∙ s))) in
    h ∙ (sym (step_besides a b c (nat_eq (p n) y) besides) ∙ ap (λ z. a || (z && c)) (sym m)))
    (λ (s : t ≡ x → ⊥).
    let here : nat_eq (get_or last y 0) x ≡ true = eq-eqb (get_or last y 0) x (ap (λ z. get_or last z 0) e ∙ d s) in
    here ∙ (sym (step_marked a b c (nat_eq (p n) y) (sym h ∙ here)) ∙ ap (λ z. a || (z && c)) (sym m)))
    (cases_eq t x))
    (λ (e : y ≡ t → ⊥).
    let miss : nat_eq (p n) y ≡ false = ne_eqb (p n) y (λ s. e (sym s ∙ (sym r ∙ sym q))) in
    h ∙ (sym (step_other a b c (nat_eq (p n) y) miss) ∙ ap (λ z. a || (z && c)) (sym m)))
    (cases_eq y t)

-- other numbers mark nothing more
pub others_set : (last initial : List ℕ) (t x : ℕ) → t < length last → ((y z : ℕ) → z ≢ x → get_or last y 0 ≡ z → get_or initial y 0 ≡ z)
    → (y z : ℕ) → z ≢ x → get_or (set last t x) y 0 ≡ z → get_or initial y 0 ≡ z
others_set last initial t x l h y z n e = ⊎_elim
    (λ (s : y ≡ t). absurd (n (sym e ∙ (ap (λ q. get_or (set last t x) q 0) s ∙ get_or-set_same last t x 0 l))))
    (λ (s : y ≡ t → ⊥). h y z n (sym (get_or-set_other last t y x 0 s) ∙ e))
    (cases_eq y t)

-- two elements are neighbours where one of those that have the first has the second
pub near_by : (g : MeshValue) (m x y : ℕ) (having : List ℕ) → having ≡ havers g m (set_size g (map_from g m)) x
    → (any_below (length having) (λ k. has_target g m (get_or having k 0) y) && not (nat_eq x y)) ≡ are_neighbours g m x y
unfolding are_neighbours
near_by g m x y having e = ap (λ z. z && not (nat_eq x y))
    (iff_eq (any_below (length having) (λ k. has_target g m (get_or having k 0) y))
    (any_below (set_size g (map_from g m)) (λ e. has_target g m e y && has_target g m e x))
    (λ t.
    let w = any_witness (length having) (λ k. has_target g m (get_or having k 0) y) t in
    let l : w.0 < length (havers g m (set_size g (map_from g m)) x) = subst (λ (z : List ℕ). w.0 < length z) e w.1 in
    let h = haver_at g m (set_size g (map_from g m)) x w.0 l in
    let r : get_or having w.0 0 ≡ get_or (havers g m (set_size g (map_from g m)) x) w.0 0 = ap (λ (z : List ℕ). get_or z w.0 0) e in
    any_from (set_size g (map_from g m)) (λ e. has_target g m e y && has_target g m e x) (get_or (havers g m (set_size g (map_from g m)) x) w.0 0) h.0
    (and_from (has_target g m (get_or (havers g m (set_size g (map_from g m)) x) w.0 0) y)
    (has_target g m (get_or (havers g m (set_size g (map_from g m)) x) w.0 0) x) (subst (λ z. has_target g m z y ≡ true) r w.2) h.1))
    (λ t.
    let w = any_witness (set_size g (map_from g m)) (λ e. has_target g m e y && has_target g m e x) t in
    let b = and_parts (has_target g m w.0 y) (has_target g m w.0 x) w.2 in
    let k = haver_has g m (set_size g (map_from g m)) x w.0 w.1 b.1 in
    let l : k.0 < length having = subst (λ (z : List ℕ). k.0 < length z) (sym e) k.1 in
    let r : get_or having k.0 0 ≡ w.0 = ap (λ (z : List ℕ). get_or z k.0 0) e ∙ (get_or_default (havers g m (set_size g (map_from g m)) x) k.0 0 w.0 k.1 ∙ k.2) in
    any_from (length having) (λ k. has_target g m (get_or having k 0) y) k.0 l (subst (λ z. has_target g m z y ≡ true) (sym r) b.0)))

pub degree_is : (g : MeshValue) (m x n : ℕ) (having : List ℕ) → having ≡ havers g m (set_size g (map_from g m)) x
    → n ≡ set_size g (map_to g m) → count_below n
    (λ y. any_below (length having) (λ k. has_target g m (get_or having k 0) y) && not (nat_eq x y)) ≡ degree g m x
unfolding degree
degree_is g m x n having e q =
    count_agree n (λ y. any_below (length having) (λ k. has_target g m (get_or having k 0) y) && not (nat_eq x y)) (are_neighbours g m x) (λ y l. near_by g m x y having e)
    ∙ ap (λ z. count_below z (are_neighbours g m x)) q
