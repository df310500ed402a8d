-- A list with one number more.
use Rattle.std.proofs.Common.{◌≡◌, ℕ, ◌+◌, ◌<◌, ⊎_elim, sym, subst, ◌∙◌, arith, List, [], ◌∷◌, ◌++◌, length}
use Rattle.std.specs.Prelude.{slice_index}
use Rattle.std.proofs.lemmas.Bool.{cases_eq}
use Rattle.std.proofs.lemmas.List.{get_or_push, get_or_append_left}

-- what is so of each number and of the last one is so of all
pub pushed : (P : ℕ → ℕ → Type 0) (xs ys : List ℕ) (x n : ℕ) → ys ≡ xs ++ x ∷ [] → length xs ≡ n
    → ((k : ℕ) → k < n → P k (slice_index xs k)) → P n x
    → (k : ℕ) → k < n + 1 → P k (slice_index ys k)
pushed P xs ys x n e len before last k l =
    subst (λ (zs : List ℕ). P k (slice_index zs k)) (sym e)
    (⊎_elim
    (λ (same : k ≡ n). subst (λ (z : ℕ). P k z) (sym (get_or_push xs x 0 k (len ∙ sym same))) (subst (λ (j : ℕ). P j x) (sym same) last))
    (λ (other : k ≡ n → ⊥). subst (λ (z : ℕ). P k z) (sym (get_or_append_left xs (x ∷ []) 0 k (omega (arith, l, other, len))))
    (before k (omega (arith, l, other))))
    (cases_eq k n))
