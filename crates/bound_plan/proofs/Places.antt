-- Where a number stands in a list.
use Rattle.std.proofs.Common.{◌≡◌, ℕ, zero, suc, ◌<◌, true, false, List, [], ◌∷◌, length, get_or, refl, sym, ap, subst, ◌∙◌, arith, ⊎_elim}
use Rattle.std.specs.Prelude.{◌==◌, Contains}
use Rattle.std.proofs.lemmas.List.{get_or_default}
use Rattle.std.proofs.lemmas.Bool.{cases_Bool, cond-true, cond-false, eqb-true, eq-eqb}
use Rattle.bound_plan.specs.Places.{first_place}

-- an element of a list that has some
pub one_of : {X : Type 0} (xs : List X) (k : ℕ) → k < length xs → X
one_of [] k l = absurd (omega arith)
one_of (x ∷ xs) k l = x

-- the list has the number at a place
pub at_place : (xs : List ℕ) (k : ℕ) → k < length xs → Contains xs (get_or xs k 0)
at_place xs k l = (k, l, get_or_default xs k (get_or xs k 0) 0 l)

pub place_of : (xs : List ℕ) (x : ℕ) (c : Contains xs x) → get_or xs c.0 0 ≡ x
place_of xs x c = get_or_default xs c.0 0 x c.1 ∙ c.2

-- a number of the list stands at its first place
pub first_stands : (xs : List ℕ) (x k : ℕ) → k < length xs → get_or xs k 0 ≡ x → (first_place xs x < length xs) × (get_or xs (first_place xs x) 0 ≡ x)
first_stands [] x k l e = absurd (omega arith)
first_stands (y ∷ ys) x zero l e =
    let z : first_place (y ∷ ys) x ≡ 0 = cond-true (y == x) 0 (suc (first_place ys x)) (eq-eqb y x e) in
    (subst (λ i. i < suc (length ys)) (sym z) (omega arith), ap (λ i. get_or (y ∷ ys) i 0) z ∙ e)
first_stands (y ∷ ys) x (suc k) l e = ⊎_elim
    (λ (h : (y == x) ≡ true).
    let z : first_place (y ∷ ys) x ≡ 0 = cond-true (y == x) 0 (suc (first_place ys x)) h in
    (subst (λ i. i < suc (length ys)) (sym z) (omega arith), ap (λ i. get_or (y ∷ ys) i 0) z ∙ eqb-true y x h))
    (λ (h : (y == x) ≡ false).
    let z : first_place (y ∷ ys) x ≡ suc (first_place ys x) = cond-false (y == x) 0 (suc (first_place ys x)) h in
    let w : (first_place ys x < length ys) × (get_or ys (first_place ys x) 0 ≡ x) = first_stands ys x k (omega arith) e in
    (subst (λ i. i < suc (length ys)) (sym z) (let i : first_place ys x < length ys = w.0 in omega arith), ap (λ i. get_or (y ∷ ys) i 0) z ∙ w.1))
    (cases_Bool (y == x))

-- where no number stands twice, each stands at its first place alone
pub first_is : (xs : List ℕ) (k : ℕ) → ((i j : ℕ) → i < length xs → j < length xs → get_or xs i 0 ≡ get_or xs j 0 → i ≡ j) → k < length xs → first_place xs (get_or xs k 0) ≡ k
first_is xs k apart l =
    let w : (first_place xs (get_or xs k 0) < length xs) × (get_or xs (first_place xs (get_or xs k 0)) 0 ≡ get_or xs k 0) = first_stands xs (get_or xs k 0) k l refl in
    apart (first_place xs (get_or xs k 0)) k w.0 l w.1
