-- Steps and readings of tests, counts and lists below a bound.
use Rattle.std.proofs.Common.{◌≡◌, ℕ, List, ap, zero, suc, ◌+◌, ◌<◌, ◌≤◌, Bool, true, false, ◌||◌, cond, [], ◌∷◌, ◌++◌, length, get_or, refl, sym, ◌∙◌, ⊎_elim, arith, add-one, subst}
use Rattle.std.proofs.lemmas.Bool.{cases_Bool, cases_eq, cases_lt, or_cases, or_left, or_right}
use Rattle.std.proofs.lemmas.List.{length_push, get_or_append_left, get_or_push, append-nil}
use Rattle.lemmas.specs.Below.{any_below, count_below, listed}

pub any_more : (n : ℕ) (p : ℕ → Bool) → any_below (n + 1) p ≡ (any_below n p || p n)
any_more n p = rw add-one refl

pub listed_more : (n : ℕ) (p : ℕ → Bool) → listed (n + 1) p ≡ listed n p ++ cond (p n) (n ∷ []) []
listed_more n p = rw add-one refl

pub count_more : (n : ℕ) (p : ℕ → Bool) → count_below (n + 1) p ≡ count_below n p + cond (p n) 1 0
count_more n p = rw add-one refl

-- tests that agree below n
pub any_agree : (n : ℕ) (p q : ℕ → Bool) → ((k : ℕ) → k < n → p k ≡ q k) → any_below n p ≡ any_below n q
any_agree zero p q h = refl
any_agree (suc n) p q h = rw (any_agree n p q (λ k l. h k (omega arith)), h n (omega arith)) refl

pub listed_agree : (n : ℕ) (p q : ℕ → Bool) → ((k : ℕ) → k < n → p k ≡ q k) → listed n p ≡ listed n q
listed_agree zero p q h = refl
listed_agree (suc n) p q h = rw (listed_agree n p q (λ k l. h k (omega arith)), h n (omega arith)) refl

pub count_agree : (n : ℕ) (p q : ℕ → Bool) → ((k : ℕ) → k < n → p k ≡ q k) → count_below n p ≡ count_below n q
count_agree zero p q h = refl
count_agree (suc n) p q h = rw (count_agree n p q (λ k l. h k (omega arith)), h n (omega arith)) refl

-- a witness, and none
pub any_from : (n : ℕ) (p : ℕ → Bool) (k : ℕ) → k < n → p k ≡ true → any_below n p ≡ true
any_from zero p k l h = absurd (omega arith)
any_from (suc n) p k l h = ⊎_elim
    (λ (e : k ≡ n). or_right (any_below n p) (p n) (subst (λ z. p z ≡ true) e h))
    (λ (e : k ≡ n → ⊥). or_left (any_below n p) (p n) (any_from n p k (omega arith) h))
    (cases_eq k n)

pub any_witness : (n : ℕ) (p : ℕ → Bool) → any_below n p ≡ true → (k : ℕ) × (k < n) × (p k ≡ true)
any_witness zero p h = let z : false ≡ true = h in cc
any_witness (suc n) p h = ⊎_elim
    (λ (e : any_below n p ≡ true). let w = any_witness n p e in (w.0, omega arith, w.2))
    (λ (e : p n ≡ true). (n, omega arith, e))
    (or_cases (any_below n p) (p n) h)

-- the list has as many elements as there are numbers
pub length_listed : (n : ℕ) (p : ℕ → Bool) → length (listed n p) ≡ count_below n p
length_listed zero p = refl
length_listed (suc n) p = ⊎_elim
    (λ (e : p n ≡ true). rw (e, length_push (listed n p) n, length_listed n p) refl)
    (λ (e : p n ≡ false). rw (e, append-nil (listed n p), length_listed n p) (omega arith))
    (cases_Bool (p n))

pub count_le : (n m : ℕ) (p : ℕ → Bool) → n ≤ m → count_below n p ≤ count_below m p
count_le n zero p l = let e : n ≡ 0 = omega arith in rw e (omega arith)
count_le n (suc m) p l = ⊎_elim
    (λ (e : n ≡ suc m). rw e (omega arith))
    (λ (e : n ≡ suc m → ⊥). let h : count_below n p ≤ count_below m p = count_le n m p (omega arith) in omega arith)
    (cases_eq n (suc m))

pub count_lt : (n m : ℕ) (p : ℕ → Bool) → n < m → p n ≡ true → count_below n p < count_below m p
count_lt n m p l e =
    let h : count_below (suc n) p ≤ count_below m p = count_le (suc n) m p (omega arith) in
    let s : count_below (suc n) p ≡ count_below n p + 1 = rw e refl in
    omega arith

-- a number that passes stands at the place that is the count of those below it
pub listed_at : (n x d : ℕ) (p : ℕ → Bool) → x < n → p x ≡ true → get_or (listed n p) (count_below x p) d ≡ x
listed_at zero x d p l h = absurd (omega arith)
listed_at (suc n) x d p l h = ⊎_elim
    (λ (e : x ≡ n).
    let q : p n ≡ true = subst (λ z. p z ≡ true) e h in
    rw (e, q) (get_or_push (listed n p) n d (count_below n p) (length_listed n p)))
    (λ (e : x ≡ n → ⊥).
    let m : x < n = omega arith in
    let b : count_below x p < count_below n p = count_lt x n p m h in
    let lb : count_below x p < length (listed n p) = rw (length_listed n p) b in
    get_or_append_left (listed n p) (cond (p n) (n ∷ []) []) d (count_below x p) lb ∙ listed_at n x d p m h)
    (cases_eq x n)

-- what stands in the list: a number below n that passes, at the place that is its count
pub at_listed : (n k d : ℕ) (p : ℕ → Bool) → k < count_below n p → (get_or (listed n p) k d < n) × (p (get_or (listed n p) k d) ≡ true) × (count_below (get_or (listed n p) k d) p ≡ k)
at_listed zero k d p l = absurd (omega arith)
at_listed (suc n) k d p l = ⊎_elim
    (λ (m : k < count_below n p).
    let lb : k < length (listed n p) = rw (length_listed n p) m in
    let r = at_listed n k d p m in
    rw (get_or_append_left (listed n p) (cond (p n) (n ∷ []) []) d k lb) (omega arith, r.1, r.2))
    (λ (m : count_below n p ≤ k). ⊎_elim
    (λ (e : p n ≡ true).
    let c : count_below (suc n) p ≡ count_below n p + 1 = rw e refl in
    let f : k ≡ count_below n p = omega arith in
    let g : get_or (listed (suc n) p) k d ≡ n = rw e (get_or_push (listed n p) n d k (length_listed n p ∙ sym f)) in
    rw g (omega arith, e, sym f))
    (λ (e : p n ≡ false).
    let c : count_below (suc n) p ≡ count_below n p + 0 = rw e refl in
    absurd (omega arith))
    (cases_Bool (p n)))
    (cases_lt k (count_below n p))

-- a list that grows by the numbers that pass
pub listed_step : (now old : List ℕ) (n : ℕ) (p : ℕ → Bool) → old ≡ listed n p → now ≡ old ++ cond (p n) (n ∷ []) [] → now ≡ listed (n + 1) p
listed_step now old n p h k = k ∙ (ap (λ z. z ++ cond (p n) (n ∷ []) []) h ∙ sym (listed_more n p))
