-- Of three faults of elements the least, and the first of equals, however they are put together.
use Rattle.std.proofs.Common.{◌≡◌, ℕ, ◌<◌, ◌≤◌, true, false, cond, ◌⊎◌, inl, inr, sym, ap, ◌∙◌, arith, ⊎_elim, Some}
use Rattle.std.specs.Prelude.{◌&&◌, ◌==◌, nat_lt}
use Rattle.std.proofs.lemmas.Bool.{cases_Bool, cases_lt, false≢true, false_from_ne_true, or_cases, or_left, or_right, and_parts, and_from, cond-true, cond-false, eqb-true, eq-eqb, ltb-true, lt-ltb}
use Rattle.schedule_model.specs.Sequential.{Stop}
use Rattle.schedule_model.specs.Machine.{is_less_element, is_less}

-- the fault of an element
pub record At {F : Type 0} (x : Stop F) : Type 0 where
  pub element : ℕ
  pub is : x.element ≡ Some element

-- what the test means
Before : {F : Type 0} (x y : Stop F) → At x → At y → Type 0
Before x y a b = (x.item < y.item) ⊎ ((x.item ≡ y.item) × (a.element < b.element))

before : {F : Type 0} (x y : Stop F) (a : At x) (b : At y) → is_less x y ≡ true → Before x y a b
unfolding Before
before x y a b h = ⊎_elim
    (λ t. inl (ltb-true x.item y.item t))
    (λ t. let u : ((x.item == y.item) ≡ true) × (is_less_element x.element y.element ≡ true) = and_parts (x.item == y.item) (is_less_element x.element y.element) t in
    inr (eqb-true x.item y.item u.0, ltb-true a.element b.element (ap (λ z. is_less_element z (Some b.element)) (sym a.is) ∙ (ap (is_less_element x.element) (sym b.is) ∙ u.1))))
    (or_cases (nat_lt x.item y.item) ((x.item == y.item) && is_less_element x.element y.element) h)

is_before : {F : Type 0} (x y : Stop F) (a : At x) (b : At y) → Before x y a b → is_less x y ≡ true
unfolding Before
is_before x y a b h = ⊎_elim
    (λ t. or_left (nat_lt x.item y.item) ((x.item == y.item) && is_less_element x.element y.element) (lt-ltb x.item y.item t))
    (λ (t : (x.item ≡ y.item) × (a.element < b.element)). or_right (nat_lt x.item y.item) ((x.item == y.item) && is_less_element x.element y.element)
    (and_from (x.item == y.item) (is_less_element x.element y.element) (eq-eqb x.item y.item t.0)
    (ap (is_less_element x.element) b.is ∙ (ap (λ z. is_less_element z (Some b.element)) a.is ∙ lt-ltb a.element b.element t.1))))
    h

trans : {F : Type 0} (w x y : Stop F) (c : At w) (a : At x) (b : At y) → is_less w x ≡ true → is_less x y ≡ true → is_less w y ≡ true
unfolding Before
trans w x y c a b h i = is_before w y c b (⊎_elim
    (λ (l : w.item < x.item). ⊎_elim (λ (m : x.item < y.item). inl (omega arith))
    (λ (m : (x.item ≡ y.item) × (a.element < b.element)). inl (let e : x.item ≡ y.item = m.0 in omega arith)) (before x y a b i))
    (λ (l : (w.item ≡ x.item) × (c.element < a.element)).
    let e : w.item ≡ x.item = l.0 in
    ⊎_elim (λ (m : x.item < y.item). inl (omega arith))
    (λ (m : (x.item ≡ y.item) × (a.element < b.element)). inr
    (l.0 ∙ m.0, (let u : c.element < a.element = l.1 in let v : a.element < b.element = m.1 in omega arith))) (before x y a b i))
    (before w x c a h))

-- what is before y, where x isn't, is before x
split : {F : Type 0} (w x y : Stop F) (c : At w) (a : At x) (b : At y) → is_less w y ≡ true → is_less x y ≡ false → is_less w x ≡ true
unfolding Before
split w x y c a b h n = ⊎_elim
    (λ t. t)
    (λ (t : is_less w x ≡ false). absurd (false≢true (sym n ∙ is_before x y a b (⊎_elim
    (λ (l : x.item < y.item). inl l)
    (λ (l : y.item ≤ x.item). ⊎_elim
    (λ (m : a.element < b.element). inr (same_item t l, m))
    (λ (m : b.element ≤ a.element). absurd (false≢true (sym t ∙ is_before w x c a (⊎_elim
    (λ (u : w.item < y.item). inl (omega arith))
    (λ (u : (w.item ≡ y.item) × (c.element < b.element)). let z : x.item ≡ y.item = same_item t l in inr (u.0 ∙ sym z, (let v : c.element < b.element = u.1 in omega arith)))
    (before w y c b h)))))
    (cases_lt a.element b.element))
    (cases_lt x.item y.item)))))
    (cases_Bool (is_less w x))
  where
    same_item : is_less w x ≡ false → y.item ≤ x.item → x.item ≡ y.item
    same_item t l = ⊎_elim
        (λ (u : y.item < x.item). absurd
        (false≢true (sym t ∙ is_before w x c a
        (⊎_elim (λ (v : w.item < y.item). inl (omega arith))
        (λ (v : (w.item ≡ y.item) × (c.element < b.element)). inl (let e : w.item ≡ y.item = v.0 in omega arith)) (before w y c b h)))))
        (λ (u : x.item ≤ y.item). omega arith)
        (cases_lt y.item x.item)

-- the least of three, from either side
pub least_of_three : {F : Type 0} (w x y : Stop F) → At w → At x → At y
    → cond (is_less w (cond (is_less x y) x y)) w (cond (is_less x y) x y) ≡ cond (is_less (cond (is_less w x) w x) y)
    (cond (is_less w x) w x) y
least_of_three w x y c a b = ⊎_elim
    (λ (p : is_less x y ≡ true).
    let z : cond (is_less x y) x y ≡ x = cond-true (is_less x y) x y p in
    ap (λ u. cond (is_less w u) w u) z
    ∙ ⊎_elim
    (λ (r : is_less w x ≡ true).
    cond-true (is_less w x) w x r
    ∙ (sym (cond-true (is_less w y) w y (trans w x y c a b r p)) ∙ ap (λ u. cond (is_less u y) u y) (sym (cond-true (is_less w x) w x r))))
    (λ (r : is_less w x ≡ false).
    cond-false (is_less w x) w x r
    ∙ (sym z ∙ ap (λ u. cond (is_less u y) u y) (sym (cond-false (is_less w x) w x r))))
    (cases_Bool (is_less w x)))
    (λ (p : is_less x y ≡ false).
    let z : cond (is_less x y) x y ≡ y = cond-false (is_less x y) x y p in
    ap (λ u. cond (is_less w u) w u) z
    ∙ ⊎_elim
    (λ (r : is_less w x ≡ true). ap (λ u. cond (is_less u y) u y) (sym (cond-true (is_less w x) w x r)))
    (λ (r : is_less w x ≡ false).
    cond-false (is_less w y) w y (false_from_ne_true (is_less w y) (λ t. false≢true (sym r ∙ split w x y c a b t p)))
    ∙ (sym z ∙ ap (λ u. cond (is_less u y) u y) (sym (cond-false (is_less w x) w x r))))
    (cases_Bool (is_less w x)))
    (cases_Bool (is_less x y))
