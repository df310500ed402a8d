-- The most spans of a message, with one rank more.
use Rattle.std.proofs.Common.{◌≡◌, ◌<◌, ◌≤◌, ◌+◌, max, ℕ, List, sym, subst, ◌⊎◌, inl, inr, ⊎_elim, arith}
use Rattle.std.proofs.lemmas.Bool.{cases_lt}
use Rattle.mesh_decl.specs.Mesh.{MeshValue}
use Rattle.local_mesh.specs.declared.lists.LocalLists.{LocalLists}
use Rattle.rank_layout.specs.SendLaws.{pair_spans, IsMost, IsMostSent}

-- one number more
pub most_more : (f : ℕ → ℕ) (n m new : ℕ) → IsMost f n m → new ≡ max (f n) m → IsMost f (n + 1) new
most_more f n m new is e = record {
  each = λ i lt. ⊎_elim
      (λ (l : i < n). let h = is.each i l in let r : f i ≤ new = omega (arith, h, e) in r)
      (λ (l : n ≤ i). let same : i ≡ n = omega arith in subst (λ j. f j ≤ new) (sym same) (let r : f n ≤ new = omega (arith, e) in r))
      (cases_lt i n);
  some = ⊎_elim
      (λ (l : f n < m). let old : new ≡ m = omega (arith, e, l) in
      subst (λ z. (z ≡ 0) ⊎ ((i : ℕ) × (i < n + 1) × (f i ≡ z))) (sym old)
      (⊎_elim (λ z. inl z) (λ w. inr (w.0, (let l : w.0 < n + 1 = omega (arith, w.1) in l), w.2)) is.some))
      (λ (l : m ≤ f n). let top : f n ≡ new = omega (arith, e, l) in inr (n, (let l : n < n + 1 = omega arith in l), top))
      (cases_lt (f n) m);
}

module _ (g : MeshValue) (lists : List LocalLists) (ranks : ℕ) where
  -- one sender more
  pub sent_more : (n m one new : ℕ) → IsMostSent g lists n ranks m → IsMost (pair_spans g lists n) ranks one → new ≡ max one m
      → IsMostSent g lists (n + 1) ranks new
  sent_more n m one new is most e = record {
    each = λ s r ls lr. ⊎_elim
        (λ (l : s < n). let h = is.each s r l lr in let q : pair_spans g lists s r ≤ new = omega (arith, h, e) in q)
        (λ (l : n ≤ s). let same : s ≡ n = omega arith in
        subst (λ j. pair_spans g lists j r ≤ new) (sym same) (let h = most.each r lr in let q : pair_spans g lists n r ≤ new = omega (arith, h, e) in q))
        (cases_lt s n);
    some = ⊎_elim
        (λ (l : one < m). let old : new ≡ m = omega (arith, e, l) in
        subst (λ z. (z ≡ 0) ⊎ ((s : ℕ) × (r : ℕ) × (s < n + 1) × (r < ranks) × (pair_spans g lists s r ≡ z))) (sym old)
        (⊎_elim (λ z. inl z) (λ w. inr (w.0, w.1, (let l : w.0 < n + 1 = omega (arith, w.2) in l), w.3, w.4)) is.some))
        (λ (l : m ≤ one). let top : new ≡ one = omega (arith, e, l) in
        subst (λ z. (z ≡ 0) ⊎ ((s : ℕ) × (r : ℕ) × (s < n + 1) × (r < ranks) × (pair_spans g lists s r ≡ z))) (sym top)
        (⊎_elim (λ z. inl z) (λ w. inr (n, w.0, (let l : n < n + 1 = omega arith in l), w.1, w.2)) most.some))
        (cases_lt one m);
  }
