-- Natural numbers.
use Rattle.std.proofs.Common.{ap, ap₂, arith, eqb, false, get_or, inl, inr, nat_eq, nat_lt, not, refl, replicate, subst, suc, sym, zero, ℕ, ⊎_elim, ◌*◌, ◌+◌, ◌/◌, ◌<◌, ◌||◌, ◌∙◌, ◌≡◌, ◌≢◌, ◌≤◌, ◌⊎◌}
use Rattle.std.proofs.Math.Nat.{div-mul-le_self, div-zero}
use Rattle.std.proofs.lemmas.Bool.{cases_eq, cases_lt, eq-eqb, eqb-false, eqb-true, le-ltb, lt-ltb, ne_eqb, not-false}
use Rattle.std.proofs.lemmas.List.{get_or-replicate, get_or_past, length-replicate}
use Rattle.std.proofs.lemmas.Nat.{le-div}
use Rattle.std.proofs.lemmas.Nat.Bits.{bit_at-lt, bit_at-zero}
use Rattle.std.specs.Int.{bit_at}
use Rattle.std.specs.Prelude.{nat_eq, ◌↔◌}

-- a bit is 0 or 1
pub bit_cases : (n i : ℕ) → (bit_at n i ≡ 0) ⊎ (bit_at n i ≡ 1)
bit_cases n i = ⊎_elim (λ e. inl e) (λ (e : bit_at n i ≡ 0 → ⊥). inr (let l : bit_at n i < 2 = bit_at-lt n i in omega arith)) (cases_eq (bit_at n i) 0)

-- 0 has no bit
pub zero_bit : (i : ℕ) → eqb (bit_at 0 i) 1 ≡ false
zero_bit i = rw bit_at-zero refl

-- of different numbers one is less
pub lt_or_gt : (t s : ℕ) → t ≢ s → (t < s) ⊎ (s < t)
lt_or_gt t s h = grind arith

pub eq_both : (x y u v : ℕ) → (x ≡ y → u ≡ v) → (u ≡ v → x ≡ y) → nat_eq x y ≡ nat_eq u v
eq_both x y u v f g = ⊎_elim
    (λ (e : x ≡ y). eq-eqb x y e ∙ sym (eq-eqb u v (f e)))
    (λ (n : x ≡ y → ⊥). ne_eqb x y n ∙ sym (ne_eqb u v (λ e. n (g e))))
    (cases_eq x y)

-- numbers with the same numbers below are equal
pub same_bound : (m n : ℕ) (P : ℕ → Type 0) → ((a : ℕ) → (a < m) ↔ P a) → ((a : ℕ) → (a < n) ↔ P a) → m ≡ n
same_bound m n P h k =
    let up : n < m → ⊥ = λ l. (let e : n < n = (k n).1 ((h n).0 l) in omega arith) in
    let down : m < n → ⊥ = λ l. (let e : m < m = (h m).1 ((k m).0 l) in omega arith) in
    omega arith

-- a list of false alone
pub all_false : (n i : ℕ) → get_or (replicate n false) i false ≡ false
all_false n i = ⊎_elim
    (λ (l : i < n). get_or-replicate n i false false l)
    (λ (g : n ≤ i). get_or_past (replicate n false) i false (subst (λ z. z ≤ i) (sym (length-replicate n false)) g))
    (cases_lt i n)

-- a number below the next one
pub lt_next : (y n : ℕ) → nat_lt y (n + 1) ≡ (nat_lt y n || nat_eq y n)
lt_next y n = ⊎_elim
    (λ (l : y < n). lt-ltb y (n + 1) (omega arith) ∙ sym (ap (λ t. t || nat_eq y n) (lt-ltb y n l)))
    (λ (l : n ≤ y). ⊎_elim
    (λ (e : y ≡ n). lt-ltb y (n + 1) (omega arith) ∙ sym (ap₂ (λ s t. s || t) (le-ltb y n l) (eq-eqb y n e)))
    (λ (e : y ≢ n). le-ltb y (n + 1) (omega (arith, l, e)) ∙ sym (ap₂ (λ s t. s || t) (le-ltb y n l) (ne_eqb y n e)))
    (cases_eq y n))
    (cases_lt y n)

-- equality of numbers goes both ways
pub nat_eq_comm : (a b : ℕ) → nat_eq a b ≡ nat_eq b a
nat_eq_comm a b = ⊎_elim
    (λ (e : a ≡ b). eq-eqb a b e ∙ sym (eq-eqb b a (sym e)))
    (λ (n : a ≡ b → ⊥). ne_eqb a b n ∙ sym (ne_eqb b a (λ e. n (sym e))))
    (cases_eq a b)

-- numbers that do not differ are equal
pub equal_from_not : (m n : ℕ) → not (nat_eq m n) ≡ false → m ≡ n
equal_from_not m n e = eqb-true m n (not-false (nat_eq m n) e)

-- a number that is not 0
pub positive : (n : ℕ) → nat_eq n 0 ≡ false → 0 < n
positive n e = grind (arith, eqb-false)

-- a quotient grows with what is divided
pub div_mono : (x y n : ℕ) → x ≤ y → x / n ≤ y / n
div_mono x y zero l = omega (arith, div-zero x, div-zero y)
div_mono x y (suc n) l = le-div (x / suc n) y (suc n) (omega arith) (let h : x / suc n * suc n ≤ x = div-mul-le_self x (suc n) in omega arith)
