-- One bit of a word for each argument.
use Rattle.std.proofs.Common.{◌≡◌, ◌≢◌, ℕ, zero, suc, ◌+◌, ◌*◌, ◌%◌, ◌^◌, ◌<◌, ◌≤◌, min, List, [], ◌∷◌, length, get_or, set, false, ◌&&◌, ◌||◌, eqb, refl, sym, ap, subst, ◌∙◌, ◌⊎◌, ⊎_elim, arith, bit_and, bit_or, w64, get_or-set_other, get_or-set_same}
use Rattle.std.specs.Int.{bit_at}
use Rattle.std.proofs.lemmas.Bool.{cases_eq, eq-eqb, ne_eqb, cases_lt}
use Rattle.std.proofs.Math.ListN.{get_or-eq_default}
use Rattle.std.proofs.lemmas.Nat.Bits.{bit_at_and, bit_at_set_same, bit_at_set_other}
use Rattle.lemmas.proofs.Numbers.{bit_cases, zero_bit}

min_one : (a b : ℕ) → (a ≡ 0) ⊎ (a ≡ 1) → (b ≡ 0) ⊎ (b ≡ 1) → eqb (min a b) 1 ≡ (eqb a 1 && eqb b 1)
min_one a b h k = ⊎_elim
    (λ (e : a ≡ 0). rw e (⊎_elim (λ (f : b ≡ 0). rw f refl) (λ (f : b ≡ 1). rw f refl) k))
    (λ (e : a ≡ 1). rw e (⊎_elim (λ (f : b ≡ 0). rw f refl) (λ (f : b ≡ 1). rw f refl) k))
    h

pub both_bit : (a b k : ℕ) → eqb (bit_at (bit_and a b) k) 1 ≡ (eqb (bit_at a k) 1 && eqb (bit_at b k) 1)
both_bit a b k = rw bit_at_and (min_one (bit_at a k) (bit_at b k) (bit_cases a k) (bit_cases b k))

-- one bit more of a word
pub with_bit : (n r k : ℕ) → r < 64 → eqb (bit_at (bit_or n (1 * 2 ^ r % 2 ^ 64)) k) 1 ≡ (eqb r k || eqb (bit_at n k) 1)
with_bit n r k l = ⊎_elim
    (λ (e : r ≡ k). rw (eq-eqb r k e) (ap (λ (z : ℕ). eqb z 1) (ap (bit_at (bit_or n (1 * 2 ^ r % 2 ^ 64))) (sym e) ∙ bit_at_set_same w64 n r l)))
    (λ (e : r ≡ k → ⊥). rw (ne_eqb r k e) (ap (λ (z : ℕ). eqb z 1) (bit_at_set_other w64 n r l k (λ q. e (sym q)))))
    (cases_eq r k)

-- one bit more of the word of an argument
pub with_bit_of : (words : List ℕ) (a r b k : ℕ) → a < length words → r < 64
    → eqb (bit_at (get_or (set words a (bit_or (get_or words a 0) (1 * 2 ^ r % 2 ^ 64))) b 0) k) 1 ≡
    ((eqb a b && eqb r k) || eqb (bit_at (get_or words b 0) k) 1)
with_bit_of words a r b k l m = ⊎_elim
    (λ (e : a ≡ b). rw (eq-eqb a b e)
    (ap (λ (z : ℕ). eqb (bit_at z k) 1) (ap (λ j. get_or (set words a (bit_or (get_or words a 0) (1 * 2 ^ r % 2 ^ 64))) j 0) (sym e)
    ∙ get_or-set_same words a (bit_or (get_or words a 0) (1 * 2 ^ r % 2 ^ 64)) 0 l) ∙ with_bit (get_or words a 0) r k m
    ∙ ap (λ j. eqb r k || eqb (bit_at (get_or words j 0) k) 1) e))
    (λ (e : a ≡ b → ⊥). rw (ne_eqb a b e) (ap (λ (z : ℕ). eqb (bit_at z k) 1) (get_or-set_other words a b (bit_or (get_or words a 0) (1 * 2 ^ r % 2 ^ 64)) 0 (λ q. e (sym q)))))
    (cases_eq a b)

-- ---- words of zeros

abbrev pub Zeros : List ℕ → Type 0
Zeros [] = Unit {0}
Zeros (w ∷ ws) = (w ≡ 0) × Zeros ws

pub zeros_have_none : (ws : List ℕ) → Zeros ws → (a i : ℕ) → eqb (bit_at (get_or ws a 0) i) 1 ≡ false
zeros_have_none [] z a i = zero_bit i
zeros_have_none (w ∷ ws) z zero i = ap (λ (x : ℕ). eqb (bit_at x i) 1) z.0 ∙ zero_bit i
zeros_have_none (w ∷ ws) z (suc a) i = zeros_have_none ws z.1 a i

-- ---- words in common

-- the word of an argument has the bits that both have
abbrev pub Common : List ℕ → List ℕ → List ℕ → ℕ → Type 0
Common ws ls rs b = (i : ℕ) → eqb (bit_at (get_or ws b 0) i) 1 ≡ (eqb (bit_at (get_or ls b 0) i) 1 && eqb (bit_at (get_or rs b 0) i) 1)

pub common_step : (ws ls rs : List ℕ) (a : ℕ) → a < length ws → get_or ws a 0 ≡ get_or ls a 0 → ((b : ℕ) → b < a → Common ws ls rs b)
    → (b : ℕ) → b < a + 1 → Common (set ws a (bit_and (get_or ws a 0) (get_or rs a 0))) ls rs b
common_step ws ls rs a lt e h b l i = ⊎_elim
    (λ (m : b < a). ap (λ (z : ℕ). eqb (bit_at z i) 1) (get_or-set_other ws a b (bit_and (get_or ws a 0) (get_or rs a 0)) 0 (λ q. let n : b ≢ a = omega arith in n q)) ∙ h b m i)
    (λ (m : a ≤ b).
    let q : a ≡ b = omega arith in
    subst (λ c. eqb (bit_at (get_or (set ws a (bit_and (get_or ws a 0) (get_or rs a 0))) c 0) i) 1 ≡ (eqb (bit_at (get_or ls c 0) i) 1 && eqb (bit_at (get_or rs c 0) i) 1)) q
    (ap (λ (z : ℕ). eqb (bit_at z i) 1) (get_or-set_same ws a (bit_and (get_or ws a 0) (get_or rs a 0)) 0 lt)
    ∙ both_bit (get_or ws a 0) (get_or rs a 0) i ∙ ap (λ z. eqb (bit_at z i) 1 && eqb (bit_at (get_or rs a 0) i) 1) e))
    (cases_lt b a)

pub rest_step : (ws ls : List ℕ) (a v : ℕ) → ((b : ℕ) → a ≤ b → get_or ws b 0 ≡ get_or ls b 0) → (b : ℕ) → a + 1 ≤ b → get_or (set ws a v) b 0 ≡ get_or ls b 0
rest_step ws ls a v h b l = get_or-set_other ws a b v 0 (λ q. let n : b ≢ a = omega arith in n q) ∙ h b (omega arith)

pub common_end : (ws ls rs : List ℕ) (a : ℕ) → length ls ≤ a → ((b : ℕ) → b < a → Common ws ls rs b) → ((b : ℕ) → a ≤ b → get_or ws b 0 ≡ get_or ls b 0) → (b : ℕ) → Common ws ls rs b
common_end ws ls rs a le h k b i = ⊎_elim
    (λ (m : b < a). h b m i)
    (λ (m : a ≤ b).
    let z : get_or ls b 0 ≡ 0 = get_or-eq_default ls 0 (omega arith) in
    ap (λ (x : ℕ). eqb (bit_at x i) 1) (k b m ∙ z) ∙ zero_bit i
    ∙ sym (ap (λ x. eqb (bit_at x i) 1 && eqb (bit_at (get_or rs b 0) i) 1) z
    ∙ ap (λ c. c && eqb (bit_at (get_or rs b 0) i) 1) (zero_bit i)))
    (cases_lt b a)
