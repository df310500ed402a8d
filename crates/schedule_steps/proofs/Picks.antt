-- The least number, and the list of all numbers, that meet a test.
use Rattle.std.proofs.Common.{◌≡◌, ℕ, zero, suc, ◌<◌, ◌≤◌, ◌%◌, Bool, true, false, cond, ◌⊎◌, inl, inr, refl, sym, ap, subst, ◌∙◌, arith, ⊎_elim, List, [], ◌∷◌, ◌++◌, length, get_or}
use Rattle.std.specs.Prelude.{nat_lt}
use Rattle.std.proofs.lemmas.Bool.{cases_eq, cases_lt, cases_Bool, cond-true, cond-false, lt-ltb, le-ltb}
use Rattle.schedule_steps.specs.Drawn.{first_below, numbers}

abbrev pub Among : ℕ → List ℕ → Type 0
Among i [] = ⊥
Among i (x ∷ xs) = (x ≡ i) ⊎ Among i xs

among_left : (i : ℕ) (a b : List ℕ) → Among i a → Among i (a ++ b)
among_left i [] b h = absurd h
among_left i (x ∷ a) b h = ⊎_elim (λ e. inl e) (λ e. inr (among_left i a b e)) h

among_right : (i : ℕ) (a b : List ℕ) → Among i b → Among i (a ++ b)
among_right i [] b h = h
among_right i (x ∷ a) b h = inr (among_right i a b h)

among_parts : (i : ℕ) (a b : List ℕ) → Among i (a ++ b) → Among i a ⊎ Among i b
among_parts i [] b h = inr h
among_parts i (x ∷ a) b h = ⊎_elim (λ e. inl (inl e)) (λ e. ⊎_elim (λ u. inl (inr u)) (λ u. inr u) (among_parts i a b e)) h

get_among : (l : List ℕ) (i : ℕ) → i < length l → Among (get_or l i 0) l
get_among [] i lt = absurd (omega arith)
get_among (x ∷ l) zero lt = inl refl
get_among (x ∷ l) (suc i) lt = inr (get_among l i (omega arith))

-- a pick from a list that isn't empty
pub pick_among : (l : List ℕ) (y i : ℕ) → Among i l → Among (get_or l (y % length l) 0) l
pick_among [] y i h = absurd h
pick_among (x ∷ l) y i h = get_among (x ∷ l) (y % length (x ∷ l)) (omega arith)

module _ (t : ℕ → Bool) where
  -- one more number
  data First (n : ℕ) : Type 0 where
    found : first_below t n < n → first_below t (suc n) ≡ first_below t n → First n
    here : n ≤ first_below t n → t n ≡ true → first_below t (suc n) ≡ n → First n
    none : n ≤ first_below t n → t n ≡ false → first_below t (suc n) ≡ suc n → First n

  first : (n : ℕ) → First n
  first n = ⊎_elim
      (λ (l : first_below t n < n). found l (cond-true (nat_lt (first_below t n) n) (first_below t n) (cond (t n) n (suc n)) (lt-ltb (first_below t n) n l)))
      (λ (l : n ≤ first_below t n).
      let e : first_below t (suc n) ≡ cond (t n) n (suc n) = cond-false (nat_lt (first_below t n) n) (first_below t n) (cond (t n) n (suc n)) (le-ltb (first_below t n) n l) in
      ⊎_elim
      (λ (h : t n ≡ true). here l h (e ∙ cond-true (t n) n (suc n) h))
      (λ (h : t n ≡ false). none l h (e ∙ cond-false (t n) n (suc n) h))
      (cases_Bool (t n)))
      (cases_lt (first_below t n) n)

  -- no lesser number meets the test
  pub first_low : (n i : ℕ) → i < first_below t n → t i ≡ false
  first_low zero i lt = absurd (omega arith)
  first_low (suc n) i lt = at (first n) (λ l. first_low n i l)
    where
      at : First n → (i < first_below t n → t i ≡ false) → t i ≡ false
      at (found l e) low = low (omega arith)
      at (here l h e) low = low (omega arith)
      at (none l h e) low = ⊎_elim (λ (k : i ≡ n). ap t k ∙ h) (λ (k : i ≡ n → ⊥). low (omega arith)) (cases_eq i n)

  pub first_hit : (n : ℕ) → first_below t n < n → t (first_below t n) ≡ true
  first_hit zero lt = absurd (omega arith)
  first_hit (suc n) lt = at (first n) (λ l. first_hit n l)
    where
      at : First n → (first_below t n < n → t (first_below t n) ≡ true) → t (first_below t (suc n)) ≡ true
      at (found l e) hit = ap t e ∙ hit l
      at (here l h e) hit = ap t e ∙ h
      at (none l h e) hit = absurd (omega arith)

  -- each number that meets the test is listed
  pub listed : (n i : ℕ) → i < n → t i ≡ true → Among i (numbers t n)
  listed zero i lt h = absurd (omega arith)
  listed (suc n) i lt h = ⊎_elim
      (λ (e : i ≡ n). among_right i (numbers t n) (cond (t n) (n ∷ []) []) (subst (Among i) (sym (cond-true (t n) (n ∷ []) [] (ap t (sym e) ∙ h))) (inl (sym e))))
      (λ (ne : i ≡ n → ⊥). among_left i (numbers t n) (cond (t n) (n ∷ []) []) (listed n i (omega arith) h))
      (cases_eq i n)

  -- and no other
  pub listed_only : (n i : ℕ) → Among i (numbers t n) → (i < n) × (t i ≡ true)
  listed_only zero i h = absurd h
  listed_only (suc n) i h = ⊎_elim
      (λ (a : Among i (numbers t n)). let r : (i < n) × (t i ≡ true) = listed_only n i a in (let l : i < n = r.0 in omega arith, r.1))
      (λ (b : Among i (cond (t n) (n ∷ []) [])). ⊎_elim
      (λ (y : t n ≡ true). at y (subst (Among i) (cond-true (t n) (n ∷ []) [] y) b))
      (λ (y : t n ≡ false). absurd (subst (Among i) (cond-false (t n) (n ∷ []) [] y) b))
      (cases_Bool (t n)))
      (among_parts i (numbers t n) (cond (t n) (n ∷ []) []) h)
    where
      at : t n ≡ true → Among i (n ∷ []) → (i < suc n) × (t i ≡ true)
      at y u = ⊎_elim (λ (e : n ≡ i). (omega arith, ap t (sym e) ∙ y)) (λ u. absurd u) u
