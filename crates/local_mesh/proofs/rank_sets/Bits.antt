-- One bit of a set of ranks after each of its operations.
use Rattle.std.proofs.Common.{◌≡◌, ℕ, ◌-◌, ◌*◌, ◌%◌, ◌^◌, ◌<◌, ◌≤◌, min, max, true, false, not, ◌&&◌, ◌||◌, eqb, refl, sym, ap, ◌∙◌, ◌⊎◌, ⊎_elim, arith, bit_and, bit_or, w64, lit<}
use Rattle.std.specs.Int.{bit_at, bit_not, trailing_zeros}
use Rattle.std.proofs.lemmas.Bool.{cases_eq, eq-eqb, ne_eqb, eqb-true}
use Rattle.std.proofs.lemmas.Nat.{and_le_l}
use Rattle.std.proofs.lemmas.Nat.Bits.{bit_at_or, bit_at_and, bit_at-zero, bit_at_set_same, bit_at_set_other, bit_at_clear_same, bit_at_clear_other, bit_at-trailing_zeros, bit_at_not, same_from_bits_below}
use Rattle.lemmas.proofs.Numbers.{bit_cases}
use Rattle.lemmas.proofs.Truth.{or_true}
use Rattle.std.proofs.Math.Bool.{and-false, and-true, or-false}

max_one : (a b : ℕ) → (a ≡ 0) ⊎ (a ≡ 1) → (b ≡ 0) ⊎ (b ≡ 1) → eqb (max a b) 1 ≡ (eqb a 1 || eqb b 1)
max_one a b h k = ⊎_elim
    (λ (e : a ≡ 0). rw e (⊎_elim (λ (f : b ≡ 0). rw f refl) (λ (f : b ≡ 1). rw f refl) k))
    (λ (e : a ≡ 1). rw e (⊎_elim (λ (f : b ≡ 0). rw f refl) (λ (f : b ≡ 1). rw f refl) k))
    h

min_one : (a b : ℕ) → (a ≡ 0) ⊎ (a ≡ 1) → (b ≡ 0) ⊎ (b ≡ 1) → eqb (min a (1 - b)) 1 ≡ (eqb a 1 && not (eqb b 1))
min_one a b h k = ⊎_elim
    (λ (e : a ≡ 0). rw e (⊎_elim (λ (f : b ≡ 0). rw f refl) (λ (f : b ≡ 1). rw f refl) k))
    (λ (e : a ≡ 1). rw e (⊎_elim (λ (f : b ≡ 0). rw f refl) (λ (f : b ≡ 1). rw f refl) k))
    h

pub union_bit : (a b k : ℕ) → eqb (bit_at (bit_or a b) k) 1 ≡ (eqb (bit_at a k) 1 || eqb (bit_at b k) 1)
union_bit a b k = rw bit_at_or (max_one (bit_at a k) (bit_at b k) (bit_cases a k) (bit_cases b k))

pub minus_bit : (a b k : ℕ) → b < 2 ^ 64 → k < 64 → eqb (bit_at (bit_and a (bit_not w64 b)) k) 1 ≡ (eqb (bit_at a k) 1 && not (eqb (bit_at b k) 1))
minus_bit a b k l m = ap (λ (z : ℕ). eqb z 1) (bit_at_and a (bit_not w64 b) k ∙ ap (λ (z : ℕ). min (bit_at a k) z) (bit_at_not w64 b k l m))
    ∙ min_one (bit_at a k) (bit_at b k) (bit_cases a k) (bit_cases b k)

pub with_bit : (a r k : ℕ) → r < 64 → eqb (bit_at (bit_or a (1 * 2 ^ r % 2 ^ 64)) k) 1 ≡ (eqb (bit_at a k) 1 || eqb k r)
with_bit a r k l = ⊎_elim
    (λ (e : k ≡ r). rw (eq-eqb k r e) (ap (λ (z : ℕ). eqb z 1) (ap (bit_at (bit_or a (1 * 2 ^ r % 2 ^ 64))) e ∙ bit_at_set_same w64 a r l) ∙ sym (or_true (eqb (bit_at a k) 1))))
    (λ (e : k ≡ r → ⊥). rw (ne_eqb k r e) (ap (λ (z : ℕ). eqb z 1) (bit_at_set_other w64 a r l k e) ∙ sym (or-false (eqb (bit_at a k) 1))))
    (cases_eq k r)

pub without_bit : (a r k : ℕ) → r < 64 → k < 64 → eqb (bit_at (bit_and a (bit_not w64 (1 * 2 ^ r % 2 ^ 64))) k) 1 ≡ (eqb (bit_at a k) 1 && not (eqb k r))
without_bit a r k l m = ⊎_elim
    (λ (e : k ≡ r). rw (eq-eqb k r e) (ap (λ (z : ℕ). eqb z 1) (ap (bit_at (bit_and a (bit_not w64 (1 * 2 ^ r % 2 ^ 64)))) e ∙ bit_at_clear_same w64 a r l) ∙ sym (and-false (eqb (bit_at a k) 1))))
    (λ (e : k ≡ r → ⊥). rw (ne_eqb k r e) (ap (λ (z : ℕ). eqb z 1) (bit_at_clear_other w64 a r l k m e) ∙ sym (and-true (eqb (bit_at a k) 1))))
    (cases_eq k r)

-- a number with none of its bits set is 0
pub none_zero : (a : ℕ) → a < 2 ^ 64 → ((k : ℕ) → k < 64 → eqb (bit_at a k) 1 ≡ false) → a ≡ 0
none_zero a l h = same_from_bits_below 64 a 0 l (lit< tt) (λ i m. ⊎_elim
    (λ (e : bit_at a i ≡ 0). e ∙ sym (bit_at-zero i))
    (λ (e : bit_at a i ≡ 1). let g : eqb (bit_at a i) 1 ≡ true = eq-eqb (bit_at a i) 1 e in let z : true ≡ false = sym g ∙ h i m in cc)
    (bit_cases a i))

-- the place of the lowest bit that is 1
pub first_bit : (a : ℕ) → 0 < a → a < 2 ^ 64 → (trailing_zeros w64 a < 64) × (eqb (bit_at a (trailing_zeros w64 a)) 1 ≡ true) × ((k : ℕ) → k < trailing_zeros w64 a → eqb (bit_at a k) 1 ≡ false)
first_bit a p l = let h = bit_at-trailing_zeros w64 a p l in (h.0, eq-eqb _ _ h.1, λ k lk. rw (h.2 k lk) refl)

-- a set less one of its ranks is a smaller number
pub without_less : (a r : ℕ) → r < 64 → eqb (bit_at a r) 1 ≡ true → bit_and a (bit_not w64 (1 * 2 ^ r % 2 ^ 64)) < a
without_less a r l h =
    let m : ℕ = bit_and a (bit_not w64 (1 * 2 ^ r % 2 ^ 64)) in
    let le : m ≤ a = and_le_l a (bit_not w64 (1 * 2 ^ r % 2 ^ 64)) in
    ⊎_elim
    (λ (e : m ≡ a).
    let z : bit_at m r ≡ 0 = bit_at_clear_same w64 a r l in
    let o : bit_at a r ≡ 1 = eqb-true (bit_at a r) 1 h in
    let s : bit_at m r ≡ bit_at a r = ap (λ (y : ℕ). bit_at y r) e in
    absurd (let g : 0 ≡ 1 = sym z ∙ (s ∙ o) in omega arith))
    (λ (e : m ≡ a → ⊥). omega arith)
    (cases_eq m a)
