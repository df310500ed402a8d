-- The numbers below a bound of which something holds, one after another.
use Rattle.std.proofs.Common.{◌≡◌, ◌≢◌, ℕ, zero, suc, ◌<◌, ◌≤◌, ◌&&◌, ⊎_elim, Bool, true, false, cond, refl, sym, ap, ◌∙◌, subst, arith}
use Rattle.std.specs.Prelude.{nat_eq}
use Rattle.std.proofs.lemmas.Bool.{cases_lt, eq-eqb, ne_eqb}

module _ (p : ℕ → Bool) where
  -- how many there are below n
  abbrev pub count : ℕ → ℕ
  count zero = zero
  count (suc n) = cond (p n) (suc (count n)) (count n)

  -- the one that k come before
  abbrev pub pick : ℕ → ℕ → ℕ
  pick zero k = 0
  pick (suc n) k = cond (p n && nat_eq (count n) k) n (pick n k)

  pub counted : (n : ℕ) → p n ≡ true → count (suc n) ≡ suc (count n)
  counted n e = ap (λ b. cond b (suc (count n)) (count n)) e

  pub skipped : (n : ℕ) → p n ≡ false → count (suc n) ≡ count n
  skipped n e = ap (λ b. cond b (suc (count n)) (count n)) e

  step : (n : ℕ) → count n ≤ count (suc n)
  step n = by (p n) refl
    where
      by : (b : Bool) → p n ≡ b → count n ≤ count (suc n)
      by true e = omega (arith, counted n e)
      by false e = omega (arith, skipped n e)

  grows : (c n : ℕ) → c ≤ n → count c ≤ count n
  grows c zero le = let e : c ≡ 0 = omega arith in omega (arith, ap count e)
  grows c (suc n) le = ⊎_elim
      (λ (lt : c < suc n). omega (arith, grows c n (omega arith), step n))
      (λ (ge : suc n ≤ c). let e : c ≡ suc n = omega arith in omega (arith, ap count e))
      (cases_lt c (suc n))

  and_false : (q : Bool) (x y : ℕ) → cond (q && false) x y ≡ y
  and_false true x y = refl
  and_false false x y = refl

  pub pick_of : (n c : ℕ) → c < n → p c ≡ true → pick n (count c) ≡ c
  pick_of zero c lt e = absurd (omega arith)
  pick_of (suc n) c lt e = ⊎_elim
      (λ (below : c < n).
      let other : count n ≢ count c = λ q. omega (arith, q, grows (suc c) n (omega arith), counted c e) in
      ap (λ b. cond (p n && b) n (pick n (count c))) (ne_eqb (count n) (count c) other)
      ∙ and_false (p n) n (pick n (count c))
      ∙ pick_of n c below e)
      (λ (above : n ≤ c).
      let here : c ≡ n = omega arith in
      subst (λ d. pick (suc n) (count d) ≡ d) (sym here)
      (ap (λ b. cond (b && nat_eq (count n) (count n)) n (pick n (count n))) (subst (λ d. p d ≡ true) here e)
      ∙ ap (λ b. cond b n (pick n (count n))) (eq-eqb (count n) (count n) refl)))
      (cases_lt c n)

  pub found : (n k : ℕ) → k < count n → (c : ℕ) × (c < n) × (p c ≡ true) × (count c ≡ k)
  found zero k lt = absurd (omega arith)
  found (suc n) k lt = by (λ less. found n k less) (p n) refl
    where
      more : (c : ℕ) × (c < n) × (p c ≡ true) × (count c ≡ k) → (c : ℕ) × (c < suc n) × (p c ≡ true) × (count c ≡ k)
      more f = let below : f.0 < n = f.1 in (f.0, omega arith, f.2, f.3)

      by : (k < count n → (c : ℕ) × (c < n) × (p c ≡ true) × (count c ≡ k)) → (b : Bool) → p n ≡ b → (c : ℕ) × (c < suc n) × (p c ≡ true) × (count c ≡ k)
      by go false e = more (go (omega (arith, lt, skipped n e)))
      by go true e = ⊎_elim
          (λ (less : k < count n). more (go less))
          (λ (rest : count n ≤ k). (n, omega arith, e, omega (arith, lt, rest, counted n e)))
          (cases_lt k (count n))

  -- those that are picked
  pub picked : (n k : ℕ) → k < count n → (pick n k < n) × (p (pick n k) ≡ true) × (count (pick n k) ≡ k)
  picked n k lt =
      let f = found n k lt in
      let e : pick n k ≡ f.0 = ap (pick n) (sym f.3) ∙ pick_of n f.0 f.1 f.2 in
      subst (λ c. (c < n) × (p c ≡ true) × (count c ≡ k)) (sym e) (f.1, f.2, f.3)

  pub differ : (n k j : ℕ) → k < count n → j < count n → k ≢ j → pick n k ≢ pick n j
  differ n k j k_lt j_lt ne e = ne (sym (picked n k k_lt).2 ∙ ap count e ∙ (picked n j j_lt).2)

  -- how many there are below one of them
  pub below : (n c : ℕ) → c < n → p c ≡ true → count c < count n
  below n c lt e = omega (arith, grows (suc c) n (omega arith), counted c e)

  pub more_below : (c n : ℕ) → c ≤ n → count c ≤ count n
  more_below = grows

  -- a number below so many is below a bound
  pub first_ones : (n k j : ℕ) → j ≤ n → k < count j → pick n k < j
  first_ones n k j le lt =
      let f = found j k lt in
      let c_lt : f.0 < j = f.1 in
      let e : pick n k ≡ f.0 = ap (pick n) (sym f.3) ∙ pick_of n f.0 (omega arith) f.2 in
      omega (arith, e, c_lt)

  pub later_ones : (n k j : ℕ) → k < count n → count j ≤ k → j ≤ pick n k
  later_ones n k j lt le = ⊎_elim
      (λ (less : pick n k < j). absurd (omega (arith, below j (pick n k) less (picked n k lt).1, (picked n k lt).2, le)))
      (λ (ge : j ≤ pick n k). ge)
      (cases_lt (pick n k) j)
