-- Numbers that are selected one after another.
use Rattle.std.proofs.Common.{◌≡◌, ℕ, ◌+◌, ◌<◌, ◌≤◌, ◌∙◌, ◌++◌, [], ◌∷◌, arith, ⊎_elim, List, length, get_or, refl, sym, ap, subst, length-append}
use Rattle.std.proofs.lemmas.Bool.{cases_lt}
use Rattle.std.proofs.lemmas.List.{get_or_append_left}
use Rattle.std.proofs.Math.Seq.{get_or-append_seam}
use Rattle.gmsh_mesh.specs.FaceLists.{IsSelection, IsInner, IsOuter, AreFaces}

module _ (P : ℕ → Type 0) (n : ℕ) (list : List ℕ) (s : IsSelection P n list) where
  pub skip : (P n → ⊥) → IsSelection P (n + 1) list
  skip none = record {
    rises = s.rises;
    each = λ k l. let h = s.each k l in (omega (arith, h.0), h.1);
    all = λ i l p. ⊎_elim
        (λ (a : i < n). s.all i a p)
        (λ (a : n ≤ i). let e : i ≡ n = omega arith in absurd (none (subst P e p)))
        (cases_lt i n);
  }

  left : (k : ℕ) → k < length list → get_or (list ++ n ∷ []) k 0 ≡ get_or list k 0
  left k l = get_or_append_left list (n ∷ []) 0 k l

  last : (k : ℕ) → k ≡ length list → get_or (list ++ n ∷ []) k 0 ≡ n
  last k e = ap (λ x. get_or (list ++ n ∷ []) x 0) e ∙ get_or-append_seam list n [] 0

  size : length (list ++ n ∷ []) ≡ length list + 1
  size = length-append list (n ∷ []) ∙ omega arith

  pushed : P n → IsSelection P (n + 1) (list ++ n ∷ [])
  pushed p = record {
    rises = λ a b h l. ⊎_elim
        (λ (x : b < length list). omega (arith, left a (omega (arith, h, x)), left b x, s.rises a b h x))
        (λ (x : length list ≤ b).
        let low : a < length list = omega (arith, h, l, size) in
        let h2 = s.each a low in
        omega (arith, left a low, last b (omega (arith, x, l, size)), h2.0))
        (cases_lt b (length list));
    each = λ k l. ⊎_elim
        (λ (x : k < length list).
        let h = s.each k x in
        subst (λ v. (v < n + 1) × P v) (sym (left k x)) (omega (arith, h.0), h.1))
        (λ (x : length list ≤ k). subst (λ v. (v < n + 1) × P v) (sym (last k (omega (arith, x, l, size)))) (omega arith, p))
        (cases_lt k (length list));
    all = λ i l q. ⊎_elim
        (λ (a : i < n). let h = s.all i a q in (h.0, omega (arith, h.1, size), left h.0 h.1 ∙ h.2))
        (λ (a : n ≤ i). (length list, omega (arith, size), last (length list) refl ∙ omega arith))
        (cases_lt i n);
  }

  pub push : (next : List ℕ) → P n → next ≡ list ++ n ∷ [] → IsSelection P (n + 1) next
  push next p e = subst (IsSelection P (n + 1)) (sym e) (pushed p)

module _ (mates : List ℕ) (n : ℕ) (inner outer : List ℕ) (s : AreFaces mates n inner outer) where
  pub takes-inner : (next : List ℕ) → n < get_or mates n 0 → next ≡ inner ++ n ∷ [] → AreFaces mates (n + 1) next outer
  takes-inner next h e = record { inner = push (IsInner mates) n inner s.inner next h e; outer = skip (IsOuter mates) n outer s.outer (λ q. omega (arith, h, q)) }

  pub takes-outer : (next : List ℕ) → n ≡ get_or mates n 0 → next ≡ outer ++ n ∷ [] → AreFaces mates (n + 1) inner next
  takes-outer next h e = record { inner = skip (IsInner mates) n inner s.inner (λ q. omega (arith, h, q)); outer = push (IsOuter mates) n outer s.outer next h e }

  pub takes-none : get_or mates n 0 ≤ n → (n ≡ get_or mates n 0 → ⊥) → AreFaces mates (n + 1) inner outer
  takes-none a b = record { inner = skip (IsInner mates) n inner s.inner (λ q. omega (arith, a, q)); outer = skip (IsOuter mates) n outer s.outer b }
