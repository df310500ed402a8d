-- All numbers below a bound in turn: at each place the least of those that aren't taken.
use Rattle.std.proofs.Common.{◌≡◌, ◌<◌, ◌≤◌, ◌+◌, ℕ, zero, suc, Bool, true, false, not, ◌||◌, nat_eq, cond, List, [], ◌∷◌, ◌++◌, length, get_or, take, refl, sym, ap, ◌∙◌, subst, arith, ⊎_elim, length-take-le, get_or-take}
use Rattle.std.specs.List.{Contains, list_any}
use Rattle.std.proofs.lemmas.Bool.{cases_eq, cases_Bool, eq-eqb, ne_eqb, eqb-true, false_from_ne_true, not-false}
use Rattle.std.proofs.lemmas.List.{get_or_push, get_or_append_left, length_push, take_all, take-append-le}
use Rattle.std.proofs.lemmas.List.Folds.{list_any-append}
use Rattle.lemmas.specs.Below.{count_below}
use Rattle.lemmas.proofs.Below.{count_agree}
use Rattle.loop_plan.proofs.plan_exists.Short.{count_few}
use Rattle.loop_plan.proofs.plan_exists.Tests.{any_in, any_of}
use Rattle.loop_plan.proofs.plan_exists.Picked.{By, IsPicked, picked}

-- ---- what is taken

-- y stands in the list
pub has : List ℕ → ℕ → Bool
has xs y = list_any (nat_eq y) xs

pub has_holds : (xs : List ℕ) (y : ℕ) → has xs y ≡ true → Contains xs y
unfolding has
has_holds xs y h = let w = any_in (nat_eq y) xs h in subst (Contains xs) (sym (eqb-true y w.0 w.2)) w.1

pub has_found : (xs : List ℕ) (y : ℕ) → Contains xs y → has xs y ≡ true
unfolding has
has_found xs y c = any_of (nat_eq y) xs y c (eq-eqb y y refl)

one_more : (p z : Bool) → z ≡ false → (p || (z || false)) ≡ p
one_more true z h = refl
one_more false z h = ap (λ w. w || false) h

now_true : (p z : Bool) → z ≡ true → (p || (z || false)) ≡ true
now_true true z h = refl
now_true false z h = ap (λ w. w || false) h

-- with one more, one more is counted
count_add : (n z : ℕ) (p : ℕ → Bool) → z < n → p z ≡ false → count_below n (λ y. p y || (nat_eq y z || false)) ≡ suc (count_below n p)
count_add zero z p l h = absurd (omega arith)
count_add (suc n) z p l h = ⊎_elim
    (λ (e : z ≡ n).
    let below : count_below n (λ y. p y || (nat_eq y z || false)) ≡ count_below n p =
    count_agree n (λ y. p y || (nat_eq y z || false)) p (λ y m. one_more (p y) (nat_eq y z) (ne_eqb y z (λ q. omega arith))) in
    let here : (p n || (nat_eq n z || false)) ≡ true = now_true (p n) (nat_eq n z) (eq-eqb n z (sym e)) in
    let was : p n ≡ false = subst (λ w. p w ≡ false) e h in
    rw (below, here, was) (omega arith))
    (λ (e : z ≡ n → ⊥).
    let below = count_add n z p (omega arith) h in
    let here : (p n || (nat_eq n z || false)) ≡ p n = one_more (p n) (nat_eq n z) (ne_eqb n z (λ q. e (sym q))) in
    rw (below, here) (omega arith))
    (cases_eq z n)

count_none : (n : ℕ) → count_below n (has []) ≡ 0
unfolding has
count_none zero = refl
count_none (suc n) = let h = count_none n in rw h refl

count_all : (n : ℕ) (p : ℕ → Bool) → ((y : ℕ) → y < n → p y ≡ true) → count_below n p ≡ n
count_all zero p h = refl
count_all (suc n) p h = let e = count_all n p (λ y l. h y (omega arith)) in let t = h n (omega arith) in rw (e, t) (omega arith)

-- where all are counted, all pass
all_pass : (n : ℕ) (p : ℕ → Bool) → count_below n p ≡ n → (y : ℕ) → y < n → p y ≡ true
all_pass zero p e y l = absurd (omega arith)
all_pass (suc n) p e y l = ⊎_elim
    (λ (t : p n ≡ true).
    let c : count_below n p + cond (p n) 1 0 ≡ suc n = e in
    let d : count_below n p + 1 ≡ suc n = subst (λ (w : Bool). count_below n p + cond w 1 0 ≡ suc n) t c in
    ⊎_elim
    (λ (q : y ≡ n). subst (λ w. p w ≡ true) (sym q) t)
    (λ (q : y ≡ n → ⊥). all_pass n p (omega arith) y (omega arith))
    (cases_eq y n))
    (λ (t : p n ≡ false).
    let c : count_below n p + cond (p n) 1 0 ≡ suc n = e in
    let d : count_below n p + 0 ≡ suc n = subst (λ (w : Bool). count_below n p + cond w 1 0 ≡ suc n) t c in
    let f = count_few n p in
    absurd (omega arith))
    (cases_Bool (p n))

-- ---- in turn

module _ (n : ℕ) (f : List ℕ → ℕ → ℕ) (key : ℕ → ℕ) where
  -- z isn't taken, and of those that aren't it is the least
  pub record IsNextOf (taken : List ℕ) (z : ℕ) : Type 0 where
    pub within : z < n
    pub new : Contains taken z → ⊥
    pub least : (y : ℕ) → y < n → (Contains taken y → ⊥) → By (f taken) key z y

  abbrev pub InTurn : List ℕ → Type 0
  InTurn order = (k : ℕ) → k < length order → IsNextOf (take k order) (get_or order k 0)

  taken_push : (order : List ℕ) (z : ℕ) → InTurn order → IsNextOf order z → InTurn (order ++ z ∷ [])
  taken_push order z h next k l = ⊎_elim
      (λ (e : k ≡ length order).
      let a : take k (order ++ z ∷ []) ≡ order = take-append-le k order (z ∷ []) (omega arith) ∙ take_all k order (omega arith) in
      let b : get_or (order ++ z ∷ []) k 0 ≡ z = get_or_push order z 0 k (sym e) in
      subst (λ (q : List ℕ). IsNextOf q (get_or (order ++ z ∷ []) k 0)) (sym a) (subst (IsNextOf order) (sym b) next))
      (λ (e : k ≡ length order → ⊥).
      let p = length_push order z in
      let lk : k < length order = omega arith in
      let a : take k (order ++ z ∷ []) ≡ take k order = take-append-le k order (z ∷ []) (omega arith) in
      let b : get_or (order ++ z ∷ []) k 0 ≡ get_or order k 0 = get_or_append_left order (z ∷ []) 0 k lk in
      subst (λ (q : List ℕ). IsNextOf q (get_or (order ++ z ∷ []) k 0)) (sym a) (subst (IsNextOf (take k order)) (sym b) (h k lk)))
      (cases_eq k (length order))

  -- the first so many
  record Turned (k : ℕ) : Type 0 where
    order : List ℕ
    count : length order ≡ k
    in_turn : InTurn order
    counted : count_below n (has order) ≡ k

  turned_more : (k : ℕ) (t : Turned k) (z : ℕ) → IsPicked (f t.order) key (λ y. not (has t.order y)) n z → Turned (suc k)
  unfolding has
  turned_more k t z p = record {
    order = t.order ++ z ∷ [];
    count = (let e = length_push t.order z in let c = t.count in omega arith);
    in_turn = taken_push t.order z t.in_turn (record {
      within = p.within;
      new = λ c. (let bad : false ≡ true = sym (ap not (has_found t.order z c)) ∙ p.passes in cc);
      least = λ y l no. p.least y l (ap not (false_from_ne_true (has t.order y) (λ h. no (has_holds t.order y h))));
    });
    counted = count_agree n (has (t.order ++ z ∷ [])) (λ y. has t.order y || (nat_eq y z || false)) (λ y l. list_any-append (nat_eq y) t.order (z ∷ []))
        ∙ (count_add n z (has t.order) p.within (is_false (has t.order z) p.passes) ∙ ap suc t.counted);
  }
    where
      is_false : (b : Bool) → not b ≡ true → b ≡ false
      is_false true h = let bad : false ≡ true = h in cc
      is_false false h = refl

  turned : (k : ℕ) → k ≤ n → Turned k
  turned zero l = record { order = []; count = refl; in_turn = λ k m. absurd (omega arith); counted = count_none n }
  turned (suc k) l = step (turned k (omega arith))
    where
      step : Turned k → Turned (suc k)
      step t = ⊎_elim
          (λ none. (let c : count_below n (has t.order) ≡ n = count_all n (has t.order) (λ y m. not-false (has t.order y) (none y m)) in let d = t.counted in absurd (omega arith)))
          (λ p. turned_more k t p.0 p.1)
          (picked (f t.order) key (λ y. not (has t.order y)) n)

  -- all numbers below n
  pub record IsWhole (order : List ℕ) : Type 0 where
    pub count : length order ≡ n
    pub in_turn : InTurn order
    pub all : (y : ℕ) → y < n → Contains order y
    pub within : (k : ℕ) → k < length order → get_or order k 0 < n

  pub whole : (order : List ℕ) × IsWhole order
  whole = let t = turned n (omega arith) in (
    t.order,
    record {
      count = t.count;
      in_turn = t.in_turn;
      all = λ y l. has_holds t.order y (all_pass n (has t.order) t.counted y l);
      within = λ k l. (t.in_turn k l).within;
    },
  )

  -- what is taken stays taken
  taken_later : (order : List ℕ) (i j y : ℕ) → i ≤ j → j < length order → Contains (take i order) y → Contains (take j order) y
  taken_later order i j y l lj c =
      let a = length-take-le i order (omega arith) in
      let b = length-take-le j order (omega arith) in
      let li : c.0 < i = let h = c.1 in omega arith in
      (c.0, omega arith, get_or-take j order c.0 y (omega arith) ∙ (sym (get_or-take i order c.0 y li) ∙ c.2))

  -- what stands later comes later by the keys of the earlier place
  pub rises_by : (order : List ℕ) → InTurn order → (i j : ℕ) → i ≤ j → j < length order → By (f (take i order)) key (get_or order i 0) (get_or order j 0)
  rises_by order t i j l lj =
      (t i (omega arith)).least (get_or order j 0) (t j lj).within (λ c. (t j lj).new (taken_later order i j (get_or order j 0) l lj c))
