-- Values of elements that follow one another.
use Rattle.std.proofs.Common.{◌≡◌, ◌<◌, ◌≤◌, ◌+◌, ◌-◌, ◌*◌, ℕ, zero, suc, ℤ, List, ◌++◌, All, flat_map, length, take, drop, get_or, sym, ap, subst, ◌∙◌, arith, append_assoc}
use Rattle.std.proofs.lemmas.List.{append-nil, drop-drop}
use Rattle.std.proofs.Math.Seq.{take-add}
use Rattle.rank_layout.proofs.FlatMaps.{flat_more}

module _ (vs : List ℤ) (dim : ℕ) where
  abbrev pub of_element : ℕ → List ℤ
  of_element x = take dim (drop (x * dim) vs)

  -- the values of n elements that follow one another stand together
  pub together : (xs : List ℕ) (i n : ℕ) → i + n ≤ length xs → ((k : ℕ) → k < n → get_or xs (i + k) 0 ≡ get_or xs i 0 + k)
      → flat_map of_element (take (i + n) xs) ≡ flat_map of_element (take i xs) ++ take (n * dim) (drop (get_or xs i 0 * dim) vs)
  together xs i zero le next =
      let e : i + 0 ≡ i = omega arith in
      let none : 0 ≡ 0 * dim = omega arith in
      ap (λ z. flat_map of_element (take z xs)) e
      ∙ (sym (append-nil (flat_map of_element (take i xs))) ∙ ap (λ z. flat_map of_element (take i xs) ++ take z (drop (get_or xs i 0 * dim) vs)) none)
  together xs i (suc n) le next =
      let x : ℕ = get_or xs i 0 in
      let front = flat_map of_element (take i xs) in
      let rest = drop (x * dim) vs in
      let more : i + suc n ≡ i + n + 1 = omega arith in
      let at : get_or xs (i + n) 0 ≡ x + n = next n (omega arith) in
      let there : (x + n) * dim ≡ x * dim + n * dim = omega arith in
      let wide : n * dim + dim ≡ suc n * dim = omega arith in
      let value : of_element (get_or xs (i + n) 0) ≡ take dim (drop (n * dim) rest) =
      ap of_element at ∙ (ap (λ z. take dim (drop z vs)) there ∙ ap (take dim) (sym (drop-drop (n * dim) (x * dim) vs))) in
      ap (λ z. flat_map of_element (take z xs)) more
      ∙ (flat_more of_element xs (i + n) 0 (omega arith)
      ∙ (ap (λ z. z ++ of_element (get_or xs (i + n) 0)) (together xs i n (omega arith) (λ k l. next k (omega arith)))
      ∙ (append_assoc front (take (n * dim) rest) (of_element (get_or xs (i + n) 0))
      ∙ ap (λ z. front ++ z) (ap (λ z. take (n * dim) rest ++ z) value ∙ (sym (take-add (n * dim) dim rest) ∙ ap (λ z. take z rest) wide)))))

-- and end within, where those of the last do
pub stretch_ends : (x n dim size : ℕ) → 0 < n → (x + (n - 1)) * dim + dim ≤ size → x * dim + n * dim ≤ size
stretch_ends x zero dim size l h = absurd (omega arith)
stretch_ends x (suc n) dim size l h =
    let a : x + (suc n - 1) ≡ x + n = omega arith in
    let b : (x + n) * dim ≡ x * dim + n * dim = omega arith in
    let c : suc n * dim ≡ n * dim + dim = omega arith in
    let d : (x + n) * dim + dim ≤ size = subst (λ z. z * dim + dim ≤ size) a h in
    omega (arith, b, c, d)

pub stretch_within : (xs : List ℕ) (i n dim size : ℕ) → All (λ x. x * dim + dim ≤ size) xs → 0 < n → i + n ≤ length xs → ((k : ℕ) → k < n → get_or xs (i + k) 0 ≡ get_or xs i 0 + k)
    → get_or xs i 0 * dim + n * dim ≤ size
stretch_within xs i n dim size all some le next =
    let h = all (i + (n - 1)) 0 (omega arith) in
    let e = next (n - 1) (omega arith) in
    stretch_ends (get_or xs i 0) n dim size some (subst (λ z. z * dim + dim ≤ size) e h)
