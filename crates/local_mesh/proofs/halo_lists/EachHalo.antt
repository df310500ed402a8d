-- One more halo.
use Rattle.std.proofs.Common.{◌≡◌, ◌+◌, ◌<◌, ℕ, List, get_or, arith, length, sym, ⊎_elim, ◌++◌, ◌∷◌, [], subst}
use Rattle.std.proofs.lemmas.Bool.{cases_eq}
use Rattle.std.proofs.lemmas.List.{get_or_push, get_or_append_left}
use Rattle.local_mesh.specs.declared.halo_lists.types.SetHalo.{SetHalo}

-- what is so of each halo is so with one more
pub each_more : (xs : List SetHalo) (h : SetHalo) (n : ℕ) (P : ℕ → SetHalo → Type 0) → length xs ≡ n → P n h
    → ((s : ℕ) (d : SetHalo) → s < n → P s (get_or xs s d)) → (s : ℕ) (d : SetHalo) → s < n + 1 → P s (get_or (xs ++ h ∷ []) s d)
each_more xs h n P e q k s d l = ⊎_elim
    (λ (t : s ≡ n). subst (λ z. P z (get_or (xs ++ h ∷ []) z d)) (sym t) (subst (λ (z : SetHalo). P n z) (sym (get_or_push xs h d n e)) q))
    (λ (t : s ≡ n → ⊥). let ls : s < n = omega arith in subst (λ (z : SetHalo). P s z) (sym (get_or_append_left xs (h ∷ []) d s (rw e ls))) (k s d ls))
    (cases_eq s n)
