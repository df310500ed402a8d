-- Words that are passed over, and the least free colour behind them.
use Rattle.std.proofs.Common.{◌≡◌, ℕ, ◌+◌, ◌*◌, ◌<◌, ◌≤◌, sym, ap, subst, ◌∙◌, arith, max, ⊎_elim, inl, inr, List, get_or}
use Rattle.std.specs.Prelude.{bit_or}
use Rattle.std.specs.Int.{bit_at}
use Rattle.std.proofs.lemmas.Bool.{cases_eq, cases_lt}
use Rattle.colouring.proofs.Bits.{full_mask, full_two}
use Rattle.colouring.specs.declared.masks.Masks.{Masks}
use Rattle.colouring.specs.Masks.{mask_of, Has, Fill, AreFilled, IsKept, Cover}

kept_mask : (m n : Masks) → IsKept m n → (t v : ℕ) → mask_of n t v ≡ mask_of m t v
kept_mask m n k t v = rw k.0 (rw k.1)

pub kept_has : (m n : Masks) → IsKept m n → (t v b : ℕ) → Has n t v b → Has m t v b
kept_has m n k t v b h = ap (λ z. bit_at z b) (sym (kept_mask m n k t v)) ∙ h

pub kept_back : (m n : Masks) → IsKept m n → (t v b : ℕ) → Has m t v b → Has n t v b
kept_back m n k t v b h = ap (λ z. bit_at z b) (kept_mask m n k t v) ∙ h

pub kept_filled : (m n : Masks) → IsKept m n → (s t v u : ℕ) → AreFilled n s t v u → AreFilled m s t v u
kept_filled m n k s t v u h w le lt b bl = ⊎_elim (λ (g : Has n s w b). inl (kept_has m n k s w b g)) (λ (g : Has n t w b). inr (kept_has m n k t w b g)) (h w le lt b bl)

pub kept_twice : (m n o : Masks) → IsKept m n → IsKept n o → IsKept m o
kept_twice m n o k l = (l.0 ∙ k.0, l.1 ∙ k.1)

-- two runs of words
pub filled_on : (m : Masks) (s t v u w : ℕ) → AreFilled m s t v u → AreFilled m s t u w → AreFilled m s t v w
filled_on m s t v u w g h x le lt = ⊎_elim (λ (l : x < u). g x le l) (λ (l : u ≤ x). h x l lt) (cases_lt x u)

-- and a word between them
pub filled_over : (m : Masks) (s t v u w z : ℕ) → AreFilled m s t v u → Fill m s t u → AreFilled m s t u w → z ≤ max w (u + 1) → AreFilled m s t v z
filled_over m s t v u w z g f h le x lx xl = ⊎_elim
    (λ (l : x < u). g x lx l)
    (λ (l : u ≤ x). ⊎_elim
    (λ (e : x ≡ u). subst (λ y. Fill m s t y) (sym e) f)
    (λ (d : x ≡ u → ⊥). h x l (omega arith))
    (cases_eq x u))
    (cases_lt x u)

-- a word of all colours
pub full_word : (m : Masks) (t v x : ℕ) → x ≡ mask_of m t v → x ≡ 4294967295 → Fill m t t v
full_word m t v x e f b bl = inl (full_mask (mask_of m t v) (sym e ∙ f) b bl)

-- two of them joined
pub full_words : (m : Masks) (s t v x y : ℕ) → x ≡ mask_of m s v → y ≡ mask_of m t v → bit_or x y ≡ 4294967295 → Fill m s t v
full_words m s t v x y e f j b bl = ⊎_elim (λ (g : bit_at x b ≡ 1). inl (ap (λ z. bit_at z b) (sym e) ∙ g)) (λ (g : bit_at y b ≡ 1). inr (ap (λ z. bit_at z b) (sym f) ∙ g)) (full_two x y j b bl)

-- one word
pub filled_one : (m n : Masks) → IsKept m n → (s t v : ℕ) → Fill n s t v → AreFilled m s t v (v + 1)
filled_one m n k s t v h x le lt b bl =
    let e : x ≡ v = omega arith in
    ⊎_elim (λ (g : Has n s v b). inl (subst (λ y. Has m s y b) (sym e) (kept_has m n k s v b g))) (λ (g : Has n t v b). inr (subst (λ y. Has m t y b) (sym e) (kept_has m n k t v b g))) (h b bl)

module _ (m : Masks) (ts : List ℕ) (start end number : ℕ) where
  abbrev Some : ℕ → ℕ → Type 0
  Some v b = (k : ℕ) × (start ≤ k) × (k < end) × Has m (get_or ts k 0) v b

  -- a word more, and those that are passed over
  pub cover_on : (n : ℕ) → Cover m ts start end (32 * number) → ((b : ℕ) → b < 32 → Some number b) → ((v b : ℕ) → number < v → v < n → b < 32 → Some v b) → Cover m ts start end (32 * n)
  cover_on n c full passed v b bl lt = ⊎_elim
      (λ (l : v < number). c v b bl (omega arith))
      (λ (l : number ≤ v). ⊎_elim
      (λ (e : v ≡ number). subst (λ y. Some y b) (sym e) (full b bl))
      (λ (d : v ≡ number → ⊥). passed v b (omega arith) (omega arith) bl)
      (cases_eq v number))
      (cases_lt v number)

  -- the colours below the first that isn't there
  pub cover_to : (bit : ℕ) → bit < 32 → Cover m ts start end (32 * number) → ((b : ℕ) → b < bit → Some number b) → Cover m ts start end (32 * number + bit)
  cover_to bit bitl c below v b bl lt = ⊎_elim
      (λ (l : v < number). c v b bl (omega arith))
      (λ (l : number ≤ v).
      let e : v ≡ number = omega arith in
      subst (λ y. Some y b) (sym e) (below b (omega arith)))
      (cases_lt v number)
