-- Extents of one number more.
use Rattle.std.proofs.Common.{◌≡◌, ℕ, ℤ, ◌+◌, ◌<◌, ◌≤ℤ◌, ◌⊎◌, inl, inr, sym, subst, ◌∙◌, arith, below_more}
use Rattle.std.proofs.lemmas.Int.{ints}
use Rattle.mesh_draw.specs.declared.picture.frame.Extent.{Extent}
use Rattle.mesh_draw.specs.Frame.{IsOne, IsExtent}

-- one of n numbers is one of n + 1
pub one_of_more : (n : ℕ) (f : ℕ → ℤ) (z : ℤ) → IsOne n f z → IsOne (n + 1) f z
one_of_more n f z h = let l : h.0 < n + 1 = omega (arith, h.1) in (h.0, l, h.2)

-- the last of n + 1 numbers is one of them
pub last_of_more : (n : ℕ) (f : ℕ → ℤ) (z : ℤ) → f n ≡ z → IsOne (n + 1) f z
last_of_more n f z e = let l : n < n + 1 = omega arith in (n, l, e)

-- an end that is that of the numbers before, or the last number
pub end_of_more : (n : ℕ) (f : ℕ → ℤ) (before v z : ℤ) → IsOne n f before → f n ≡ v → (z ≡ before) ⊎ (z ≡ v) → IsOne (n + 1) f z
end_of_more n f before v z one e h =
    elim h [
      | inl same ↦ subst (λ (y : ℤ). IsOne (n + 1) f y) (sym same) (one_of_more n f before one)
      | inr new ↦ last_of_more n f z (e ∙ sym new)
    ]

-- the extent of one number more
pub extent_of_more : (n : ℕ) (f : ℕ → ℤ) (e wide : Extent) (v : ℤ)
    → 0 < n → f n ≡ v → IsExtent n f e
    → wide.low ≤ℤ e.low → wide.low ≤ℤ v → e.high ≤ℤ wide.high → v ≤ℤ wide.high
    → (wide.low ≡ e.low) ⊎ (wide.low ≡ v) → (wide.high ≡ e.high) ⊎ (wide.high ≡ v)
    → IsExtent (n + 1) f wide
extent_of_more n f e wide v some is h low_e low_v high_e high_v low_is high_is =
    record {
      within = below_more (λ (i : ℕ). (wide.low ≤ℤ f i) × (f i ≤ℤ wide.high)) n
          (λ i l. let low : e.low ≤ℤ f i = (h.within i l).0 in let high : f i ≤ℤ e.high = (h.within i l).1 in
          (omega (arith, ints), omega (arith, ints)))
          (subst (λ (y : ℤ). (wide.low ≤ℤ y) × (y ≤ℤ wide.high)) (sym is) (low_v, high_v));
      tight = λ _. (end_of_more n f e.low v wide.low (h.tight some).0 is low_is, end_of_more n f e.high v wide.high (h.tight some).1 is high_is);
      none = λ z. absurd (omega arith);
    }
