use Rattle.std.proofs.Common.{◌≡◌, ℕ, ◌+◌, ◌*◌, ◌%◌, ◌^◌, ◌<◌, ◌≤◌, max, sym, ap, subst, ◌∙◌, arith, ⊎_elim, inl, inr, List, get_or}
use Rattle.std.specs.Prelude.{◌↔◌, ◌⊎◌, bit_or}
use Rattle.std.specs.Int.{bit_at, w32}
use Rattle.std.proofs.lemmas.Bool.{cases_eq}
use Rattle.std.proofs.lemmas.Nat.Bits.{bit_at_or, bit_at_set_same, bit_at_set_other, bit_at_ones, bit_at-lt}

pub or_iff : (a m b : ℕ) → (bit_at (bit_or a m) b ≡ 1) ↔ ((bit_at a b ≡ 1) ⊎ (bit_at m b ≡ 1))
or_iff a m b =
    let o : bit_at (bit_or a m) b ≡ max (bit_at a b) (bit_at m b) = bit_at_or a m b in
    let x : bit_at a b < 2 = bit_at-lt a b in
    let y : bit_at m b < 2 = bit_at-lt m b in (
      (λ h. ⊎_elim (λ (e : bit_at a b ≡ 1). inl e) (λ (ne : bit_at a b ≡ 1 → ⊥). inr (omega arith)) (cases_eq (bit_at a b) 1)),
      (λ h. ⊎_elim (λ (e : bit_at a b ≡ 1). omega arith) (λ (e : bit_at m b ≡ 1). omega arith) h),
    )

pub joined_step : (f : ℕ → ℕ) (ts : List ℕ) (all start k : ℕ) → start ≤ k
    → ((b : ℕ) → (bit_at all b ≡ 1) ↔ ((x : ℕ) × (start ≤ x) × (x < k) × (bit_at (f (get_or ts x 0)) b ≡ 1))) → (b : ℕ)
    → (bit_at (bit_or all (f (get_or ts k 0))) b ≡ 1) ↔ ((x : ℕ) × (start ≤ x) × (x < k + 1) × (bit_at (f (get_or ts x 0)) b ≡ 1))
joined_step f ts all start k le h b =
    let o = or_iff all (f (get_or ts k 0)) b in (
      (λ z. ⊎_elim
          (λ (e : bit_at all b ≡ 1). (let g : (x : ℕ) × (start ≤ x) × (x < k) × (bit_at (f (get_or ts x 0)) b ≡ 1) = (h b).0 e in let l : g.0 < k = g.2 in (g.0, g.1, omega arith, g.3)))
          (λ (e : bit_at (f (get_or ts k 0)) b ≡ 1). (k, le, omega arith, e))
          (o.0 z)),
      (λ (g : (x : ℕ) × (start ≤ x) × (x < k + 1) × (bit_at (f (get_or ts x 0)) b ≡ 1)). ⊎_elim
          (λ (e : g.0 ≡ k). o.1 (inr (subst (λ z. bit_at (f (get_or ts z 0)) b ≡ 1) e g.3)))
          (λ (ne : g.0 ≡ k → ⊥). o.1 (inl ((h b).1 (g.0, g.1, (let l : g.0 < k + 1 = g.2 in omega arith), g.3))))
          (cases_eq g.0 k)),
    )

-- a mask with one bit more
pub with_bit : (m bit b : ℕ) → bit < 32 → (bit_at (bit_or m (1 * 2 ^ bit % 4294967296)) b ≡ 1) ↔ ((bit_at m b ≡ 1) ⊎ (b ≡ bit))
with_bit m bit b within = ⊎_elim
    (λ (e : b ≡ bit). ((λ _. inr e), (λ _. subst (λ y. bit_at (bit_or m (1 * 2 ^ bit % 4294967296)) y ≡ 1) (sym e) (bit_at_set_same w32 m bit within))))
    (λ (ne : b ≡ bit → ⊥).
    let o : bit_at (bit_or m (1 * 2 ^ bit % 4294967296)) b ≡ bit_at m b = bit_at_set_other w32 m bit within b ne in
    ((λ z. inl (sym o ∙ z)), (λ z. o ∙ ⊎_elim (λ (q : bit_at m b ≡ 1). q) (λ (q : b ≡ bit). absurd (ne q)) z)))
    (cases_eq b bit)

-- one word of one target has a bit more
pub given_one : (old new : ℕ → ℕ → ℕ) (target number bit : ℕ) → bit < 32
    → new target number ≡ bit_or (old target number) (1 * 2 ^ bit % 4294967296)
    → ((t v : ℕ) → (t ≡ target → v ≡ number → ⊥) → new t v ≡ old t v) → (t v b : ℕ)
    → (bit_at (new t v) b ≡ 1) ↔ ((bit_at (old t v) b ≡ 1) ⊎ ((t ≡ target) × (v ≡ number) × (b ≡ bit)))
given_one old new target number bit within here apart t v b = ⊎_elim
    (λ (e : t ≡ target). ⊎_elim
    (λ (f : v ≡ number).
    let w = with_bit (old target number) bit b within in
    subst (λ y. (bit_at (new y v) b ≡ 1) ↔ ((bit_at (old y v) b ≡ 1) ⊎ ((t ≡ target) × (v ≡ number) × (b ≡ bit)))) (sym e)
    (subst (λ y. (bit_at (new target y) b ≡ 1) ↔ ((bit_at (old target y) b ≡ 1) ⊎ ((t ≡ target) × (v ≡ number) × (b ≡ bit)))) (sym f) (
      (λ z. ⊎_elim (λ (q : bit_at (old target number) b ≡ 1). inl q) (λ (q : b ≡ bit). inr (e, f, q)) (w.0 (subst (λ y. bit_at y b ≡ 1) here z))),
      (λ z. subst (λ y. bit_at y b ≡ 1) (sym here) (w.1 (⊎_elim (λ (q : bit_at (old target number) b ≡ 1). inl q) (λ (q : (t ≡ target) × (v ≡ number) × (b ≡ bit)). inr q.2) z))),
    )))
    (λ (nf : v ≡ number → ⊥). other (λ _ f. nf f))
    (cases_eq v number))
    (λ (ne : t ≡ target → ⊥). other (λ e _. ne e))
    (cases_eq t target)
  where
    other : (t ≡ target → v ≡ number → ⊥) → (bit_at (new t v) b ≡ 1) ↔ ((bit_at (old t v) b ≡ 1) ⊎ ((t ≡ target) × (v ≡ number) × (b ≡ bit)))
    other differ = (
      (λ z. inl (ap (λ y. bit_at y b) (sym (apart t v differ)) ∙ z)),
      (λ z. ap (λ y. bit_at y b) (apart t v differ) ∙ ⊎_elim (λ (q : bit_at (old t v) b ≡ 1). q)
          (λ (q : (t ≡ target) × (v ≡ number) × (b ≡ bit)). absurd (differ q.0 q.1)) z),
    )

pub full_mask : (m : ℕ) → m ≡ 4294967295 → (b : ℕ) → b < 32 → bit_at m b ≡ 1
full_mask m e b lt = ap (λ z. bit_at z b) e ∙ bit_at_ones 32 b lt

-- a mask of all colours, of two masks joined
pub full_two : (x y : ℕ) → bit_or x y ≡ 4294967295 → (b : ℕ) → b < 32 → (bit_at x b ≡ 1) ⊎ (bit_at y b ≡ 1)
full_two x y e b lt = (or_iff x y b).0 (full_mask (bit_or x y) e b lt)
