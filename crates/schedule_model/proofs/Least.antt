-- The least recorded fault.
use Rattle.std.proofs.Common.{◌≡◌, ℕ, ◌<◌, true, false, ◌⊎◌, inl, inr, refl, sym, ap, subst, ◌∙◌, arith, ⊎_elim, Option, Some, None, List, [], ◌∷◌, ◌++◌}
use Rattle.std.specs.Prelude.{nat_lt, ◌&&◌, ◌==◌}
use Rattle.std.proofs.lemmas.Bool.{cond-true, cond-false, cases_Bool, false≢true, false_from_ne_true, ltb-true, lt-ltb, eqb-true, or_cases, and_parts}
use Rattle.schedule_model.specs.Sequential.{Stop}
use Rattle.schedule_model.specs.Machine.{is_less_element, is_less, lesser, least}

abbrev pub Each : {F : Type 0} → (Stop F → Type 0) → List (Stop F) → Type 0
Each P [] = Unit {0}
Each P (x ∷ xs) = P x × Each P xs

abbrev pub Member : {F : Type 0} → Stop F → List (Stop F) → Type 0
Member x [] = ⊥
Member x (y ∷ ys) = (y ≡ x) ⊎ Member x ys

pub each_push : {F : Type 0} (P : Stop F → Type 0) (xs : List (Stop F)) (y : Stop F) → Each P xs → P y → Each P (xs ++ (y ∷ []))
each_push P [] y h hy = (hy, tt)
each_push P (x ∷ xs) y h hy = (h.0, each_push P xs y h.1 hy)

pub each_more : {F : Type 0} (P Q : Stop F → Type 0) (xs : List (Stop F)) → ((x : Stop F) → P x → Q x) → Each P xs → Each Q xs
each_more P Q [] f h = tt
each_more P Q (x ∷ xs) f h = (f x h.0, each_more P Q xs f h.1)

pub member_left : {F : Type 0} (x : Stop F) (xs ys : List (Stop F)) → Member x xs → Member x (xs ++ ys)
member_left x [] ys h = absurd h
member_left x (y ∷ xs) ys h = ⊎_elim (λ e. inl e) (λ t. inr (member_left x xs ys t)) h

pub member_push : {F : Type 0} (x : Stop F) (xs : List (Stop F)) → Member x (xs ++ (x ∷ []))
member_push x [] = inl refl
member_push x (y ∷ xs) = inr (member_push x xs)

-- x is before y, or they are one
abbrev pub Beats : {F : Type 0} → Stop F → Stop F → Type 0
Beats x y = (y ≡ x) ⊎ (is_less x y ≡ true)

less_elements : (a b : Option ℕ) → is_less_element a b ≡ true → is_less_element b a ≡ false
less_elements None b h = absurd (false≢true h)
less_elements (Some a) None h = absurd (false≢true h)
less_elements (Some a) (Some b) h = false_from_ne_true (nat_lt b a) (λ t. let x : a < b = ltb-true a b h in let y : b < a = ltb-true b a t in omega arith)

pub asymmetric : {F : Type 0} (a b : Stop F) → is_less a b ≡ true → is_less b a ≡ false
asymmetric a b h = false_from_ne_true (is_less b a) (λ t.
    ⊎_elim
    (λ (x : nat_lt a.item b.item ≡ true).
    let X : a.item < b.item = ltb-true a.item b.item x in
    ⊎_elim
    (λ (y : nat_lt b.item a.item ≡ true). let Y : b.item < a.item = ltb-true b.item a.item y in omega arith)
    (λ (y : ((b.item == a.item) && is_less_element b.element a.element) ≡ true). let Y : b.item ≡ a.item =
    eqb-true b.item a.item (and_parts (b.item == a.item) (is_less_element b.element a.element) y).0 in omega arith)
    (or_cases (nat_lt b.item a.item) ((b.item == a.item) && is_less_element b.element a.element) t))
    (λ (x : ((a.item == b.item) && is_less_element a.element b.element) ≡ true).
    let X : a.item ≡ b.item = eqb-true a.item b.item (and_parts (a.item == b.item) (is_less_element a.element b.element) x).0 in
    let L : is_less_element a.element b.element ≡ true = (and_parts (a.item == b.item) (is_less_element a.element b.element) x).1 in
    ⊎_elim
    (λ (y : nat_lt b.item a.item ≡ true). let Y : b.item < a.item = ltb-true b.item a.item y in omega arith)
    (λ (y : ((b.item == a.item) && is_less_element b.element a.element) ≡ true).
    false≢true (sym (less_elements a.element b.element L) ∙ (and_parts (b.item == a.item) (is_less_element b.element a.element) y).1))
    (or_cases (nat_lt b.item a.item) ((b.item == a.item) && is_less_element b.element a.element) t))
    (or_cases (nat_lt a.item b.item) ((a.item == b.item) && is_less_element a.element b.element) h))

abbrev Best : {F : Type 0} → Stop F → Option (Stop F) → Type 0
Best x None = Unit {0}
Best x (Some z) = Beats x z

lesser_best : {F : Type 0} (x y : Stop F) (o : Option (Stop F)) → Beats x y → Best x o → Beats x (lesser y o)
lesser_best x y None b h = b
lesser_best x y (Some z) b h = ⊎_elim
    (λ t. subst (λ w. Beats x w) (sym (cond-true (is_less z y) z y t)) h)
    (λ t. subst (λ w. Beats x w) (sym (cond-false (is_less z y) z y t)) b)
    (cases_Bool (is_less z y))

best_all : {F : Type 0} (k : ℕ) (x : Stop F) (xs : List (Stop F)) → Each (λ y. y.item < k → Beats x y) xs → Best x (least k xs)
best_all k x [] h = tt
best_all k x (y ∷ ys) h = ⊎_elim
    (λ t. subst (Best x) (sym (cond-true (nat_lt y.item k) (Some (lesser y (least k ys))) (least k ys) t)) (lesser_best x y (least k ys) (h.0 (ltb-true y.item k t)) (best_all k x ys h.1)))
    (λ t. subst (Best x) (sym (cond-false (nat_lt y.item k) (Some (lesser y (least k ys))) (least k ys) t)) (best_all k x ys h.1))
    (cases_Bool (nat_lt y.item k))

keeps_best : {F : Type 0} (x : Stop F) (o : Option (Stop F)) → Best x o → lesser x o ≡ x
keeps_best x None h = refl
keeps_best x (Some z) h = ⊎_elim
    (λ (e : z ≡ x). ⊎_elim (λ t. cond-true (is_less z x) z x t ∙ e) (λ t. cond-false (is_less z x) z x t) (cases_Bool (is_less z x)))
    (λ (l : is_less x z ≡ true). cond-false (is_less z x) z x (asymmetric x z l))
    h

beaten : {F : Type 0} (x y : Stop F) → Beats x y → lesser y (Some x) ≡ x
beaten x y h = ⊎_elim
    (λ (e : y ≡ x). ⊎_elim (λ t. cond-true (is_less x y) x y t) (λ t. cond-false (is_less x y) x y t ∙ e) (cases_Bool (is_less x y)))
    (λ (l : is_less x y ≡ true). cond-true (is_less x y) x y l)
    h

pub least_is : {F : Type 0} (k : ℕ) (x : Stop F) (xs : List (Stop F)) → x.item < k → Member x xs → Each (λ y. y.item < k → Beats x y) xs → least k xs ≡ Some x
least_is k x [] lt m h = absurd m
least_is k x (y ∷ ys) lt m h = ⊎_elim
    (λ (e : y ≡ x).
    cond-true (nat_lt y.item k) (Some (lesser y (least k ys))) (least k ys) (lt-ltb y.item k (subst (λ z. z.item < k) (sym e) lt))
    ∙ (ap (λ z. Some (lesser z (least k ys))) e ∙ ap Some (keeps_best x (least k ys) (best_all k x ys h.1))))
    (λ (t : Member x ys).
    let rest : least k ys ≡ Some x = least_is k x ys lt t h.1 in
    ⊎_elim
    (λ b. cond-true (nat_lt y.item k) (Some (lesser y (least k ys))) (least k ys) b ∙ (ap (λ o. Some (lesser y o)) rest ∙ ap Some (beaten x y (h.0 (ltb-true y.item k b)))))
    (λ b. cond-false (nat_lt y.item k) (Some (lesser y (least k ys))) (least k ys) b ∙ rest)
    (cases_Bool (nat_lt y.item k)))
    m

pub least_none : {F : Type 0} (k : ℕ) (xs : List (Stop F)) → Each (λ y. y.item < k → ⊥) xs → least k xs ≡ None
least_none k [] h = refl
least_none k (y ∷ ys) h =
    cond-false (nat_lt y.item k) (Some (lesser y (least k ys))) (least k ys) (false_from_ne_true (nat_lt y.item k) (λ t. h.0 (ltb-true y.item k t)))
    ∙ least_none k ys h.1
