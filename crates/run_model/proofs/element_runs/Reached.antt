-- Which cells an element reaches, and by which arguments.
use Rattle.std.proofs.Common.{◌≡◌, ◌<◌, ◌≤◌, ℕ, zero, suc, Bool, true, false, List, length, refl, sym, ap, subst, ◌⊎◌, inl, inr, ⊎_elim, arith}
use Rattle.std.specs.Prelude.{◌↔◌}
use Rattle.std.proofs.lemmas.Bool.{cases_lt}
use Rattle.std.proofs.Math.ListN.{get_or-eq_default}
use Rattle.kernel_model.specs.Obeys.{Mode, mode_at, no_mode}

-- tests of one and the same are one
pub same_test : {P : Type 0} (x y : Bool) → (x ≡ true) ↔ P → (y ≡ true) ↔ P → x ≡ y
same_test true true p q = refl
same_test false false p q = refl
same_test true false p q = sym (q.1 (p.0 refl))
same_test false true p q = p.1 (q.0 refl)

-- some argument of the first m reaches, or none does
pub search_for : (p : ℕ → Bool) (m : ℕ) → ((a : ℕ) × (a < m) × (p a ≡ true)) ⊎ ((a : ℕ) → a < m → p a ≡ false)
search_for p zero = inr (λ a lt. absurd (omega arith))
search_for p (suc m) = pick (search_for p m) (p m) refl
  where
    pick : ((a : ℕ) × (a < m) × (p a ≡ true)) ⊎ ((a : ℕ) → a < m → p a ≡ false) → (b : Bool) → p m ≡ b → ((a : ℕ) × (a < suc m) × (p a ≡ true)) ⊎ ((a : ℕ) → a < suc m → p a ≡ false)
    pick (inl h) b e = inl (h.0, (let lt : h.0 < suc m = omega (arith, h.1) in lt), h.2)
    pick (inr h) true e = inl (m, (let lt : m < suc m = omega arith in lt), e)
    pick (inr h) false e = inr (λ a lt. ⊎_elim (λ l. h a l) (λ l. let same : m ≡ a = omega arith in subst (λ x. p x ≡ false) same e) (cases_lt a m))

-- what has a component is one of the arguments
pub is_argument : (modes : List Mode) (n : ℕ) → length modes ≡ n → (a i : ℕ) → i < (mode_at modes a).dim → a < n
is_argument modes n count a i lt = ⊎_elim (λ l. l) (λ l. absurd (past l)) (cases_lt a n)
  where
    past : n ≤ a → ⊥
    past l =
        let long : length modes ≤ a = omega (arith, count) in
        let none : (mode_at modes a).dim ≡ 0 = ap (λ (m : Mode). m.dim) (get_or-eq_default modes no_mode long) in
        omega arith
