-- One more item of a list.
use Rattle.std.proofs.Common.{◌≡◌, ◌+◌, ◌<◌, ℕ, List, Vec, get_or, arith, length, sym, ap, ◌∙◌, ⊎_elim, ◌++◌, ◌∷◌, [], subst}
use Rattle.std.proofs.lemmas.Bool.{cases_eq}
use Rattle.std.proofs.lemmas.List.{get_or_push, get_or_append_left}
use Rattle.std.specs.declared.alloc.Global.{Global}
use Rattle.lemmas.specs.Below.{row, rows}
use Rattle.lemmas.proofs.Rows.{row_push, row_push_left, rows_at, rows_push, rows_push_left}

-- what is so of each item is so with one more
pub each_more : {X : Type 0} (xs : List X) (h : X) (n : ℕ) (P : ℕ → X → Type 0) → length xs ≡ n → P n h
    → ((s : ℕ) (d : X) → s < n → P s (get_or xs s d)) → (s : ℕ) (d : X) → s < n + 1 → P s (get_or (xs ++ h ∷ []) s d)
each_more {X = X} xs h n P e q k s d l = ⊎_elim
    (λ (t : s ≡ n). subst (λ z. P z (get_or (xs ++ h ∷ []) z d)) (sym t) (subst (λ (z : X). P n z) (sym (get_or_push xs h d n e)) q))
    (λ (t : s ≡ n → ⊥). let ls : s < n = omega arith in subst (λ (z : X). P s z) (sym (get_or_append_left xs (h ∷ []) d s (rw e ls))) (k s d ls))
    (cases_eq s n)

-- what is so of each number is so with one more
pub number_more : (xs : List ℕ) (y n : ℕ) (P : ℕ → ℕ → Type 0) → length xs ≡ n → ((x : ℕ) → x < n → P x (get_or xs x 0)) → P n y → (x : ℕ) → x < n + 1 → P x (get_or (xs ++ y ∷ []) x 0)
number_more xs y n P e h q x l = ⊎_elim
    (λ (t : x ≡ n). subst (λ z. P z (get_or (xs ++ y ∷ []) z 0)) (sym t) (subst (λ z. P n z) (sym (get_or_push xs y 0 n e)) q))
    (λ (t : x ≡ n → ⊥). let lx : x < n = omega arith in subst (λ z. P x z) (sym (get_or_append_left xs (y ∷ []) 0 x (rw e lx))) (h x lx))
    (cases_eq x n)

-- what is so of each list is so with one more
pub each_row : (xs : List (Vec ℕ Global)) (v : Vec ℕ Global) (n : ℕ) (P : ℕ → List ℕ → Type 0) → length xs ≡ n
    → ((m : ℕ) → m < n → P m (row xs m)) → P n v.items → (m : ℕ) → m < n + 1 → P m (row (xs ++ v ∷ []) m)
each_row xs v n P e h q m l = ⊎_elim
    (λ (t : m ≡ n). subst (λ z. P z (row (xs ++ v ∷ []) z)) (sym t) (subst (λ (z : List ℕ). P n z) (sym (row_push xs v n e)) q))
    (λ (t : m ≡ n → ⊥). let lm : m < n = omega arith in subst (λ (z : List ℕ). P m z) (sym (row_push_left xs v m (rw e lm))) (h m lm))
    (cases_eq m n)

-- what is so of each list of lists is so with one more
pub each_rows : (xs : List (Vec (Vec ℕ Global) Global)) (v : Vec (Vec ℕ Global) Global) (n : ℕ) (P : ℕ → List (Vec ℕ Global) → Type 0)
    → length xs ≡ n → ((m : ℕ) → m < n → P m (rows xs m)) → P n v.items → (m : ℕ) → m < n + 1 → P m (rows (xs ++ v ∷ []) m)
each_rows xs v n P e h q m l = ⊎_elim
    (λ (t : m ≡ n). subst (λ z. P z (rows (xs ++ v ∷ []) z)) (sym t) (subst (λ (z : List (Vec ℕ Global)). P n z) (sym (rows_push xs v n e)) q))
    (λ (t : m ≡ n → ⊥). let lm : m < n = omega arith in subst (λ (z : List (Vec ℕ Global)). P m z) (sym (rows_push_left xs v m (rw e lm))) (h m lm))
    (cases_eq m n)

-- the list of lists that was read
pub rows_read : (xs : List (Vec (Vec ℕ Global) Global)) (i : ℕ) (v : Vec (Vec ℕ Global) Global) → i < length xs → v ≡ get_or xs i v → v.items ≡ rows xs i
rows_read xs i v l r = ap (λ (q : Vec (Vec ℕ Global) Global). q.items) r ∙ rows_at xs i v l
