-- Words of targets: one more colour, and words that are passed over.
use Rattle.std.proofs.Common.{◌≡◌, ℕ, ◌*◌, ◌%◌, ◌^◌, ◌<◌, ◌≤◌, max, refl, sym, ap, subst, ◌∙◌, arith, ⊎_elim, inl, inr, List, length, get_or, cond, false, ◌&&◌, Option, Some, None, unwrap_or, set, replicate}
use Rattle.std.specs.Prelude.{◌↔◌, ◌⊎◌, bit_or, nat_eq, ◌==◌}
use Rattle.std.specs.Int.{bit_at}
use Rattle.colouring.proofs.Bits.{given_one}
use Rattle.std.proofs.lemmas.List.{get_or-set_same, get_or-set_other, get_or_default, get_or-replicate, get_or_past, length-replicate}
use Rattle.std.proofs.lemmas.Bool.{cases_eq, cases_lt, ne_eqb, and_left, and_right}

-- what is kept of the words from a number on
pub known_words : (o : Option ℕ) (P : ℕ → Type 0) (number r : ℕ) → r ≡ max (unwrap_or o number) number
    → ((n : ℕ) → o ≡ Some n → (u : ℕ) → number ≤ u → u < n → P u) → (u : ℕ) → number ≤ u → u < r → P u
known_words None P number r e h u le lt = absurd (let f : r ≡ max number number = e in omega arith)
known_words (Some n) P number r e h u le lt = h n refl u le (let f : r ≡ max n number = e in omega arith)

-- a key of three numbers, or another one
key_three : (a b v s t u : ℕ) → ((a ≡ s) × (b ≡ t) × (v ≡ u)) ⊎ (((nat_eq a s && nat_eq b t) && nat_eq v u) ≡ false)
key_three a b v s t u = ⊎_elim
    (λ (e : a ≡ s). ⊎_elim
    (λ (f : b ≡ t). ⊎_elim
    (λ (g : v ≡ u). inl (e, f, g))
    (λ (g : v ≡ u → ⊥). inr (and_right (nat_eq a s && nat_eq b t) (nat_eq v u) (ne_eqb v u g)))
    (cases_eq v u))
    (λ (f : b ≡ t → ⊥). inr (and_left (nat_eq a s && nat_eq b t) (nat_eq v u) (and_right (nat_eq a s) (nat_eq b t) (ne_eqb b t f))))
    (cases_eq b t))
    (λ (e : a ≡ s → ⊥). inr (and_left (nat_eq a s && nat_eq b t) (nat_eq v u) (and_left (nat_eq a s) (nat_eq b t) (ne_eqb a s e))))
    (cases_eq a s)

-- a key of two numbers, or another one
pub key_two : (a b s t : ℕ) → ((a ≡ s) × (b ≡ t)) ⊎ ((nat_eq a s && nat_eq b t) ≡ false)
key_two a b s t = ⊎_elim
    (λ (e : a ≡ s). ⊎_elim
    (λ (f : b ≡ t). inl (e, f))
    (λ (f : b ≡ t → ⊥). inr (and_right (nat_eq a s) (nat_eq b t) (ne_eqb b t f)))
    (cases_eq b t))
    (λ (e : a ≡ s → ⊥). inr (and_left (nat_eq a s) (nat_eq b t) (ne_eqb a s e)))
    (cases_eq a s)

-- what holds of all that is kept holds after one thing more is
pub kept_words : (old new : ℕ × ℕ × ℕ → Option ℕ) (a b v n : ℕ) (P : ℕ → ℕ → ℕ → ℕ → Type 0) → new (a, b, v) ≡ Some n
    → ((q : ℕ × ℕ × ℕ) → ((nat_eq a q.0 && nat_eq b q.1) && nat_eq v q.2) ≡ false → new q ≡ old q) → P a b v n
    → ((s t u m : ℕ) → old (s, t, u) ≡ Some m → P s t u m) → (s t u m : ℕ) → new (s, t, u) ≡ Some m → P s t u m
kept_words old new a b v n P here apart p h s t u m got = ⊎_elim
    (λ (e : (a ≡ s) × (b ≡ t) × (v ≡ u)).
    let at : new (a, b, v) ≡ Some m = subst (λ z. new (z, b, v) ≡ Some m) (sym e.0) (subst (λ z. new (s, z, v) ≡ Some m) (sym e.1) (subst (λ z. new (s, t, z) ≡ Some m) (sym e.2) got)) in
    let f : n ≡ m = ap (λ o. unwrap_or o 0) (sym here ∙ at) in
    subst (λ z. P z t u m) e.0 (subst (λ z. P a z u m) e.1 (subst (λ z. P a b z m) e.2 (subst (λ z. P a b v z) f p))))
    (λ (f : ((nat_eq a s && nat_eq b t) && nat_eq v u) ≡ false). h s t u m (sym (apart (s, t, u) f) ∙ got))
    (key_three a b v s t u)

-- a word of a target where another is written
word_left : (first : ℕ → ℕ) (old new : ℕ × ℕ → Option ℕ) (target number : ℕ)
    → ((q : ℕ × ℕ) → (nat_eq target q.0 && nat_eq number q.1) ≡ false → new q ≡ old q) → (t v : ℕ) → (t ≡ target → v ≡ number → ⊥)
    → cond (v == 0) (first t) (unwrap_or (new (t, v)) 0) ≡ cond (v == 0) (first t) (unwrap_or (old (t, v)) 0)
word_left first old new target number apart t v differ = ⊎_elim
    (λ (e : (target ≡ t) × (number ≡ v)). absurd (differ (sym e.0) (sym e.1)))
    (λ (f : (nat_eq target t && nat_eq number v) ≡ false). ap (λ o. cond (v == 0) (first t) (unwrap_or o 0)) (apart (t, v) f))
    (key_two target number t v)

-- a later word of a target, after one bit more is written
pub given_later : (first : ℕ → ℕ) (old new : ℕ × ℕ → Option ℕ) (target number bit r : ℕ) → 0 < number → bit < 32
    → r ≡ unwrap_or (old (target, number)) 0 → new (target, number) ≡ Some (bit_or r (1 * 2 ^ bit % 4294967296))
    → ((q : ℕ × ℕ) → (nat_eq target q.0 && nat_eq number q.1) ≡ false → new q ≡ old q) → (t v b : ℕ)
    → (bit_at (cond (v == 0) (first t) (unwrap_or (new (t, v)) 0)) b ≡ 1) ↔
    ((bit_at (cond (v == 0) (first t) (unwrap_or (old (t, v)) 0)) b ≡ 1) ⊎ ((t ≡ target) × (v ≡ number) × (b ≡ bit)))
given_later first old new target number bit r some within e here apart = given_one
    (λ t v. cond (v == 0) (first t) (unwrap_or (old (t, v)) 0))
    (λ t v. cond (v == 0) (first t) (unwrap_or (new (t, v)) 0))
    target number bit within
    (later new ∙ (ap (λ o. unwrap_or o 0) here ∙ ap (λ z. bit_or z (1 * 2 ^ bit % 4294967296)) (e ∙ sym (later old))))
    (word_left first old new target number apart)
  where
    later : (f : ℕ × ℕ → Option ℕ) → cond (number == 0) (first target) (unwrap_or (f (target, number)) 0) ≡ unwrap_or (f (target, number)) 0
    later f = ap (λ z. cond z (first target) (unwrap_or (f (target, number)) 0)) (ne_eqb number 0 (λ e. omega arith))

-- word 0 of a target, after one bit more is written
module _ (items : List ℕ) (later : ℕ × ℕ → Option ℕ) (target number bit r : ℕ) where
  abbrev x : ℕ
  x = bit_or r (1 * 2 ^ bit % 4294967296)

  abbrev changed : List ℕ
  changed = set items target x

  abbrev word : List ℕ → ℕ → ℕ → ℕ
  word xs t v = cond (v == 0) (get_or xs t 0) (unwrap_or (later (t, v)) 0)

  at_zero : (xs : List ℕ) → number ≡ 0 → word xs target number ≡ get_or xs target 0
  at_zero xs f = ap (λ v. word xs target v) f

  at_later : (xs : List ℕ) (t v : ℕ) → (v ≡ 0 → ⊥) → word xs t v ≡ unwrap_or (later (t, v)) 0
  at_later xs t v f = ap (λ z. cond z (get_or xs t 0) (unwrap_or (later (t, v)) 0)) (ne_eqb v 0 f)

  apart : number ≤ 0 → (t v : ℕ) → (t ≡ target → v ≡ number → ⊥) → word changed t v ≡ word items t v
  apart low t v differ = ⊎_elim
      (λ (f : v ≡ 0). ap (λ z. cond (v == 0) z (unwrap_or (later (t, v)) 0)) (get_or-set_other items target t x 0 (λ g. differ g (omega arith))))
      (λ (f : v ≡ 0 → ⊥). at_later changed t v f ∙ sym (at_later items t v f))
      (cases_eq v 0)

  pub given_first : number ≤ 0 → bit < 32 → target < length items → r ≡ get_or items target r → (t v b : ℕ)
      → (bit_at (word changed t v) b ≡ 1) ↔ ((bit_at (word items t v) b ≡ 1) ⊎ ((t ≡ target) × (v ≡ number) × (b ≡ bit)))
  given_first low within inside e =
      let f : number ≡ 0 = omega arith in
      given_one (word items) (word changed) target number bit within
      (at_zero changed f ∙ (get_or-set_same items target x 0 inside ∙ ap (λ z. bit_or z (1 * 2 ^ bit % 4294967296)) (e ∙ (get_or_default items target r 0 inside ∙ sym (at_zero items f)))))
      (apart low)

-- where nothing is written
pub none_written : (items : List ℕ) (n : ℕ) (o : Option ℕ) → items ≡ replicate n 0 → o ≡ None → (t v : ℕ) → cond (v == 0) (get_or items t 0) (unwrap_or o 0) ≡ 0
none_written items n o e f t v = ⊎_elim
    (λ (z : v ≡ 0). ap (λ y. cond (y == 0) (get_or items t 0) (unwrap_or o 0)) z ∙ (ap (λ xs. get_or xs t 0) e ∙ zeros))
    (λ (z : v ≡ 0 → ⊥). ap (λ y. cond y (get_or items t 0) (unwrap_or o 0)) (ne_eqb v 0 z) ∙ ap (λ y. unwrap_or y 0) f)
    (cases_eq v 0)
  where
    zeros : get_or (replicate {A = ℕ} n 0) t 0 ≡ 0
    zeros = ⊎_elim
        (λ (l : t < n). get_or-replicate n t 0 0 l)
        (λ (l : n ≤ t). get_or_past (replicate {A = ℕ} n 0) t 0 (rw length-replicate l))
        (cases_lt t n)

abbrev told : Option ℕ → ℕ
told None = 0
told (Some n) = 1

-- nor is anything kept
pub none_kept : (o : Option ℕ) (n : ℕ) → o ≡ None → o ≡ Some n → ⊥
none_kept o n e f = let g : ◌≡◌ {A = ℕ} 0 1 = ap told (sym e ∙ f) in omega arith
