-- The first that passes, and the rank with the most votes.
use Rattle.std.proofs.Common.{◌≡◌, ◌<◌, ◌≤◌, ℕ, zero, suc, pred, Bool, true, false, ◌||◌, refl, sym, ap, ◌∙◌, subst, arith, ⊎_elim, inl, inr, ◌⊎◌}
use Rattle.std.proofs.lemmas.Bool.{cases_lt, cases_eq, cases_Bool}
use Rattle.lemmas.specs.Below.{any_below}
use Rattle.partition.specs.Derive.{IsFirst}
use Rattle.partition.specs.Elected.{IsElected}
use Rattle.partition.proofs.Public.{none_passes}

pub first : (p : ℕ → Bool) (n : ℕ) → (any_below n p ≡ false) ⊎ ((k : ℕ) × IsFirst n p k)
first p zero = inl refl
first p (suc n) = step (first p n) (cases_Bool (p n))
  where
    step : (any_below n p ≡ false) ⊎ ((k : ℕ) × IsFirst n p k) → (p n ≡ true) ⊎ (p n ≡ false) → (any_below (suc n) p ≡ false) ⊎ ((k : ℕ) × IsFirst (suc n) p k)
    step (inr k) t = inr (k.0, record { within = (let l = k.1.within in omega arith); passes = k.1.passes; before = k.1.before })
    step (inl none) (inl t) = inr (n, record { within = omega arith; passes = t; before = none_passes n p none })
    step (inl none) (inr t) = inl (ap (λ z. z || p n) none ∙ t)

elected : (votes : ℕ → ℕ) (n : ℕ) → (r : ℕ) × IsElected (suc n) votes r
elected votes zero = (
  0,
  record {
    within = omega arith;
    most = λ q l. (let e : q ≡ 0 = omega arith in subst (λ z. votes z ≤ votes 0) (sym e) (omega arith));
    first = λ q l. absurd (omega arith);
  },
)
elected votes (suc n) = step (elected votes n)
  where
    step : (r : ℕ) × IsElected (suc n) votes r → (r : ℕ) × IsElected (suc (suc n)) votes r
    step (r, e) = ⊎_elim
        (λ (l : votes r < votes (suc n)). (
          suc n,
          record {
            within = omega arith;
            most = λ q m. ⊎_elim
                (λ (c : q ≡ suc n). subst (λ z. votes z ≤ votes (suc n)) (sym c) (omega arith))
                (λ (c : q ≡ suc n → ⊥). let h = e.most q (omega arith) in omega arith)
                (cases_eq q (suc n));
            first = λ q m. (let h = e.most q (omega arith) in omega arith);
          },
        ))
        (λ (l : votes (suc n) ≤ votes r). (
          r,
          record {
            within = (let w = e.within in omega arith);
            most = λ q m. ⊎_elim
                (λ (c : q ≡ suc n). subst (λ z. votes z ≤ votes r) (sym c) l)
                (λ (c : q ≡ suc n → ⊥). e.most q (omega arith))
                (cases_eq q (suc n));
            first = e.first;
          },
        ))
        (cases_lt (votes r) (votes (suc n)))

one_less : (n : ℕ) → 0 < n → suc (pred n) ≡ n
one_less zero l = absurd (omega arith)
one_less (suc n) l = refl

-- the same of any number of ranks
pub greatest : (n : ℕ) (votes : ℕ → ℕ) → 0 < n → (r : ℕ) × IsElected n votes r
greatest n votes some = let e = elected votes (pred n) in (e.0, subst (λ z. IsElected z votes e.0) (one_less n some) e.1)
