-- A table with one entry more.
use Rattle.std.proofs.Common.{◌≡◌, ◌<◌, ◌≤◌, ◌+◌, ℕ, List, [], ◌∷◌, ◌++◌, length, get_or, sym, subst, ⊎_elim, arith}
use Rattle.std.proofs.lemmas.List.{get_or_append_left, get_or_push}
use Rattle.std.proofs.lemmas.Bool.{cases_lt}

pub one_entry : {A : Type 0} (P : ℕ → A → Type 0) (d : A) (xs : List A) (x : A) (n : ℕ) → length xs ≡ n
    → ((s : ℕ) → s < n → P s (get_or xs s d)) → P n x
    → (s : ℕ) → s < n + 1 → P s (get_or (xs ++ x ∷ []) s d)
one_entry P d xs x n len each one s lt = ⊎_elim
    (λ (l : s < n). subst (P s) (sym (get_or_append_left xs (x ∷ []) d s (omega (arith, len, l)))) (each s l))
    (λ (l : n ≤ s).
    let e : n ≡ s = omega (arith, l, lt) in
    subst (λ z. P z (get_or (xs ++ x ∷ []) z d)) e (subst (P n) (sym (get_or_push xs x d n len)) one))
    (cases_lt s n)
