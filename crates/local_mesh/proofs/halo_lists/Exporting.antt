-- Steps of the loops that collect exports.
use Rattle.std.proofs.Common.{◌≡◌, ℕ, ◌+◌, ◌<◌, Bool, ◌&&◌, cond, nat_eq, List, [], ◌∷◌, ◌++◌, length, set, Vec, refl, sym, ap, ◌∙◌, arith, ⊎_elim}
use Rattle.std.specs.declared.alloc.Global.{Global}
use Rattle.std.proofs.lemmas.Bool.{cases_eq, eq-eqb, ne_eqb}
use Rattle.std.proofs.lemmas.List.{append-nil}
use Rattle.lemmas.specs.Below.{row, rows}
use Rattle.lemmas.proofs.Rows.{rows_set_same, rows_set_other, rows_push, rows_push_left}
use Rattle.std.proofs.Math.Bool.{and-false, and-true}

pub pushed_rows : (exports : List (Vec (Vec ℕ Global) Global)) (owner n : ℕ) (v : Vec (Vec ℕ Global) Global) (news : List (Vec ℕ Global))
    (element : ℕ) (ranks : ℕ → Bool) → owner < length exports → v.items ≡ news
    → ((r : ℕ) → r < n → row news r ≡ row (rows exports owner) r ++ cond (ranks r) (element ∷ []) []) → (a r : ℕ) → a < n → r < n
    → row (rows (set exports owner v) a) r ≡ row (rows exports a) r ++ cond (ranks r && nat_eq owner a) (element ∷ []) []
pushed_rows exports owner n v news element ranks l e h a r la lr = ⊎_elim
    (λ (q : a ≡ owner).
    rw (q, eq-eqb owner owner refl, and-true (ranks r)) (ap (λ z. row z r) (rows_set_same exports owner v l ∙ e) ∙ h r lr))
    (λ (m : a ≡ owner → ⊥).
    rw (ne_eqb owner a (λ q. m (sym q)), and-false (ranks r)) (ap (λ z. row z r) (rows_set_other exports owner a v m) ∙ sym (append-nil (row (rows exports a) r))))
    (cases_eq a owner)

pub pushed_lengths : (exports : List (Vec (Vec ℕ Global) Global)) (owner n : ℕ) (v : Vec (Vec ℕ Global) Global) → owner < length exports
    → length v.items ≡ n → ((a : ℕ) → a < length exports → length (rows exports a) ≡ n) → (a : ℕ) → a < length exports
    → length (rows (set exports owner v) a) ≡ n
pushed_lengths exports owner n v l e h a la = ⊎_elim
    (λ (q : a ≡ owner). rw q (ap (length {A = Vec ℕ Global}) (rows_set_same exports owner v l) ∙ e))
    (λ (m : a ≡ owner → ⊥). ap (length {A = Vec ℕ Global}) (rows_set_other exports owner a v m) ∙ h a la)
    (cases_eq a owner)

pub lengths_more : (xs : List (Vec (Vec ℕ Global) Global)) (v : Vec (Vec ℕ Global) Global) (n m : ℕ) → length xs ≡ n → length v.items ≡ m
    → ((a : ℕ) → a < n → length (rows xs a) ≡ m) → (a : ℕ) → a < n + 1 → length (rows (xs ++ v ∷ []) a) ≡ m
lengths_more xs v n m e q h a l = ⊎_elim
    (λ (s : a ≡ n). rw s (ap (length {A = Vec ℕ Global}) (rows_push xs v n e) ∙ q))
    (λ (t : a ≡ n → ⊥). let la : a < n = omega arith in ap (length {A = Vec ℕ Global}) (rows_push_left xs v a (rw e la)) ∙ h a la)
    (cases_eq a n)

pub rows_more : (xs : List (Vec (Vec ℕ Global) Global)) (v : Vec (Vec ℕ Global) Global) (n m : ℕ) → length xs ≡ n
    → ((r : ℕ) → r < m → row v.items r ≡ []) → ((a r : ℕ) → a < n → r < m → row (rows xs a) r ≡ []) → (a r : ℕ) → a < n + 1 → r < m
    → row (rows (xs ++ v ∷ []) a) r ≡ []
rows_more xs v n m e q h a r l lr = ⊎_elim
    (λ (s : a ≡ n). rw s (ap (λ z. row z r) (rows_push xs v n e) ∙ q r lr))
    (λ (t : a ≡ n → ⊥). let la : a < n = omega arith in ap (λ z. row z r) (rows_push_left xs v a (rw e la)) ∙ h a r la lr)
    (cases_eq a n)
