-- The least of the numbers that pass, by two keys.
use Rattle.std.proofs.Common.{◌≡◌, ◌<◌, ◌≤◌, ℕ, zero, suc, Bool, true, false, refl, sym, ◌∙◌, subst, arith, ⊎_elim, inl, inr, ◌⊎◌}
use Rattle.std.proofs.lemmas.Bool.{cases_eq, cases_lt, cases_Bool}

-- x comes no later than y by (f, key)
abbrev pub By : (ℕ → ℕ) → (ℕ → ℕ) → ℕ → ℕ → Type 0
By f key x y = (f x < f y) ⊎ ((f x ≡ f y) × (key x ≤ key y))

module _ (f key : ℕ → ℕ) where
  pub by_total : (x y : ℕ) → By f key x y ⊎ By f key y x
  by_total x y = ⊎_elim
      (λ (l : f x < f y). inl (inl l))
      (λ (m : f y ≤ f x). ⊎_elim
      (λ (e : f x ≡ f y). ⊎_elim
      (λ (l : key x < key y). inl (inr (e, omega arith)))
      (λ (l : key y ≤ key x). inr (inr (sym e, l)))
      (cases_lt (key x) (key y)))
      (λ (e : f x ≡ f y → ⊥). inr (inl (omega arith)))
      (cases_eq (f x) (f y)))
      (cases_lt (f x) (f y))

  pub by_trans : (x y z : ℕ) → By f key x y → By f key y z → By f key x z
  by_trans x y z (inl a) (inl b) = inl (omega arith)
  by_trans x y z (inl a) (inr b) = inl (let e = b.0 in omega arith)
  by_trans x y z (inr a) (inl b) = inl (let e = a.0 in omega arith)
  by_trans x y z (inr a) (inr b) = inr (a.0 ∙ b.0, (let l = a.1 in let m = b.1 in omega arith))

  by_itself : (x : ℕ) → By f key x x
  by_itself x = inr (refl, omega arith)

  module _ (t : ℕ → Bool) where
    -- of the numbers below n that pass, z is the least
    pub record IsPicked (n z : ℕ) : Type 0 where
      pub within : z < n
      pub passes : t z ≡ true
      pub least : (y : ℕ) → y < n → t y ≡ true → By f key z y

    fails : (n : ℕ) → t n ≡ false → ((y : ℕ) → y < n → t y ≡ false) → (y : ℕ) → y < suc n → t y ≡ false
    fails n h none y l = ⊎_elim
        (λ (e : y ≡ n). subst (λ z. t z ≡ false) (sym e) h)
        (λ (e : y ≡ n → ⊥). none y (omega arith))
        (cases_eq y n)

    stays : (n z : ℕ) → IsPicked n z → (t n ≡ true → By f key z n) → IsPicked (suc n) z
    stays n z p h = record {
      within = (let w = p.within in omega arith);
      passes = p.passes;
      least = λ y l ty. ⊎_elim
          (λ (e : y ≡ n). subst (By f key z) (sym e) (h (subst (λ w. t w ≡ true) e ty)))
          (λ (e : y ≡ n → ⊥). p.least y (omega arith) ty)
          (cases_eq y n);
    }

    begins : (n : ℕ) → t n ≡ true → ((y : ℕ) → y < n → t y ≡ true → By f key n y) → IsPicked (suc n) n
    begins n h below = record {
      within = omega arith;
      passes = h;
      least = λ y l ty. ⊎_elim
          (λ (e : y ≡ n). subst (By f key n) (sym e) (by_itself n))
          (λ (e : y ≡ n → ⊥). below y (omega arith) ty)
          (cases_eq y n);
    }

    -- none passes, or there is a least one
    pub picked : (n : ℕ) → ((y : ℕ) → y < n → t y ≡ false) ⊎ ((z : ℕ) × IsPicked n z)
    picked zero = inl (λ y l. absurd (omega arith))
    picked (suc n) = step (cases_Bool (t n)) (picked n)
      where
        step : (t n ≡ true) ⊎ (t n ≡ false) → ((y : ℕ) → y < n → t y ≡ false) ⊎ ((z : ℕ) × IsPicked n z) → ((y : ℕ) → y < suc n → t y ≡ false) ⊎ ((z : ℕ) × IsPicked (suc n) z)
        step (inr h) (inl none) = inl (fails n h none)
        step (inr h) (inr p) = inr (p.0, stays n p.0 p.1 (λ k. (let bad : true ≡ false = sym k ∙ h in cc)))
        step (inl h) (inl none) = inr (n, begins n h (λ y l ty. (let bad : true ≡ false = sym ty ∙ none y l in cc)))
        step (inl h) (inr p) = ⊎_elim
            (λ (o : By f key p.0 n). inr (p.0, stays n p.0 p.1 (λ k. o)))
            (λ (o : By f key n p.0). inr (n, begins n h (λ y l ty. by_trans n p.0 y o (p.1.least y l ty))))
            (by_total p.0 n)
