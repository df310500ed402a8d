-- Tables read after one more row.
use Rattle.std.proofs.Common.{◌≡◌, ℕ, ◌+◌, ◌<◌, ◌≤◌, sym, ap, subst, ◌∙◌, arith, ⊎_elim, List, [], ◌∷◌, ◌++◌, length, get_or, map, Vec}
use Rattle.std.specs.declared.alloc.Global.{Global}
use Rattle.std.proofs.lemmas.Bool.{cases_eq}
use Rattle.std.proofs.lemmas.List.{get_or-map, get_or_push, get_or_append_left, get_or_past, length-map, map-append}
use Rattle.lemmas.specs.Below.{row}

pub row_past : (xs : List (Vec ℕ Global)) (i : ℕ) → length xs ≤ i → row xs i ≡ []
unfolding row
row_past xs i le = get_or_past (map (λ (v : Vec ℕ Global). v.items) xs) i [] (omega (arith, length-map xs (λ (v : Vec ℕ Global). v.items)))

module _ {A B : Type 0} (f : A → B) (d : B) where
  -- by number, f of each
  abbrev pub at : List A → ℕ → B
  at xs k = get_or (map f xs) k d

  pub at_read : (xs : List A) (k : ℕ) (x : A) → k < length xs → x ≡ get_or xs k x → at xs k ≡ f x
  at_read xs k x lt e = get_or-map f xs k x d lt ∙ ap f (sym e)

  pub at_before : (xs : List A) (x : A) (k : ℕ) → k < length xs → at (xs ++ (x ∷ [])) k ≡ at xs k
  at_before xs x k lt =
      ap (λ z. get_or z k d) (map-append f xs (x ∷ []))
      ∙ get_or_append_left (map f xs) (f x ∷ []) d k (omega (arith, length-map xs f))

  pub at_last : (xs : List A) (x : A) (k : ℕ) → length xs ≡ k → at (xs ++ (x ∷ [])) k ≡ f x
  at_last xs x k e =
      ap (λ z. get_or z k d) (map-append f xs (x ∷ []))
      ∙ get_or_push (map f xs) (f x) d k (length-map xs f ∙ e)

-- the same of two tables
pub both_more : {A B C : Type 0} (f : A → B) (d : B) (h : A → C) (e : C) (P : ℕ → B → C → Type 0) (xs : List A) (x : A) (n : ℕ)
    → length xs ≡ n
    → P n (f x) (h x)
    → ((k : ℕ) → k < n → P k (get_or (map f xs) k d) (get_or (map h xs) k e))
    → (k : ℕ) → k < n + 1 → P k (get_or (map f (xs ++ (x ∷ []))) k d) (get_or (map h (xs ++ (x ∷ []))) k e)
both_more {A} {B} {C} f d h e P xs x n count last before k lt = ⊎_elim
    (λ (i : k ≡ n). subst (λ z. P z (get_or (map f (xs ++ (x ∷ []))) z d) (get_or (map h (xs ++ (x ∷ []))) z e)) (sym i)
    (subst (λ z. P n z (get_or (map h (xs ++ (x ∷ []))) n e)) (sym (at_last f d xs x n count)) (subst (λ z. P n (f x) z) (sym (at_last h e xs x n count)) last)))
    (λ (ne : k ≡ n → ⊥).
    (let l : k < n = omega arith in
    subst (λ z. P k z (get_or (map h (xs ++ (x ∷ []))) k e)) (sym (at_before f d xs x k (omega arith)))
    (subst (λ z. P k (get_or (map f xs) k d) z) (sym (at_before h e xs x k (omega arith))) (before k l))))
    (cases_eq k n)
