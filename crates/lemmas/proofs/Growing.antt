-- Lists of lists with one more list.
use Rattle.std.proofs.Common.{◌≡◌, ℕ, ◌+◌, ◌<◌, List, [], ◌∷◌, ◌++◌, length, get_or, sym, arith, ⊎_elim, subst}
use Rattle.std.proofs.lemmas.Bool.{cases_eq}
use Rattle.std.proofs.lemmas.List.{get_or_push, get_or_append_left}

-- what is so of each list is so with one more
pub list_more : (xs : List (List ℕ)) (y : List ℕ) (n : ℕ) (P : ℕ → List ℕ → Type 0) → length xs ≡ n
    → ((s : ℕ) → s < n → P s (get_or xs s [])) → P n y → (s : ℕ) → s < n + 1 → P s (get_or (xs ++ y ∷ []) s [])
list_more xs y n P e h q x l = ⊎_elim
    (λ (t : x ≡ n). subst (λ z. P z (get_or (xs ++ y ∷ []) z [])) (sym t) (subst (λ (z : List ℕ). P n z) (sym (get_or_push xs y [] n e)) q))
    (λ (t : x ≡ n → ⊥). let lx : x < n = omega arith in subst (λ (z : List ℕ). P x z) (sym (get_or_append_left xs (y ∷ []) [] x (rw e lx))) (h x lx))
    (cases_eq x n)

-- what is so of a list and a size is so of their equals
pub moved : (P : ℕ → List ℕ → Type 0) (size n : ℕ) (v y : List ℕ) → y ≡ v → size ≡ n → P size v → P n y
moved P size n v y e q h = subst (λ (z : List ℕ). P n z) (sym e) (subst (λ (k : ℕ). P k v) q h)
