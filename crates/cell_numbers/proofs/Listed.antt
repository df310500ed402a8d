-- Lists of the numbers below a bound that pass a test.
use Rattle.std.proofs.Common.{◌≡◌, ℕ, zero, suc, ◌<◌, ◌≤◌, Bool, true, false, cond, [], ◌∷◌, refl, ap, ◌∙◌, ⊎_elim, arith, nat_eq, All}
use Rattle.std.specs.Prelude.{◌||◌, ◌&&◌}
use Rattle.std.specs.List.{list_any}
use Rattle.std.proofs.Math.Bool.{or-false, and-false, and-true}
use Rattle.std.proofs.lemmas.Bool.{cases_eq, eq-eqb, ne_eqb}
use Rattle.std.proofs.lemmas.List.Folds.{list_any-append}
use Rattle.std.proofs.lemmas.List.Elements.{All-append, All-nil}
use Rattle.lemmas.specs.Below.{listed}
use Rattle.cell_numbers.specs.Marks.{AllBelow}

-- a last number, where there is one
last_any : (n x : ℕ) (b : Bool) → list_any (λ y. nat_eq y x) (cond b (n ∷ []) []) ≡ (b && nat_eq n x)
last_any n x true = or-false (nat_eq n x)
last_any n x false = refl

-- a number at or beyond the bound isn't listed
beyond : (n : ℕ) (p : ℕ → Bool) (x : ℕ) → n ≤ x → list_any (λ y. nat_eq y x) (listed n p) ≡ false
beyond zero p x l = refl
beyond (suc n) p x l =
    let other : nat_eq n x ≡ false = ne_eqb n x (λ e. omega (arith, e)) in
    list_any-append (λ y. nat_eq y x) (listed n p) (cond (p n) (n ∷ []) [])
    ∙ ap (λ b. b || list_any (λ y. nat_eq y x) (cond (p n) (n ∷ []) [])) (beyond n p x (omega arith))
    ∙ last_any n x (p n) ∙ ap (λ b. p n && b) other ∙ and-false (p n)

-- a number below the bound is listed exactly where it passes
pub listed_any : (n : ℕ) (p : ℕ → Bool) (x : ℕ) → x < n → list_any (λ y. nat_eq y x) (listed n p) ≡ p x
listed_any zero p x l = absurd (omega arith)
listed_any (suc n) p x l =
    list_any-append (λ y. nat_eq y x) (listed n p) (cond (p n) (n ∷ []) [])
    ∙ ap (λ b. list_any (λ y. nat_eq y x) (listed n p) || b) (last_any n x (p n))
    ∙ ⊎_elim
    (λ (e : n ≡ x). ap (λ b. b || (p n && nat_eq n x)) (beyond n p x (omega (arith, e)))
    ∙ ap (λ b. p n && b) (eq-eqb n x e) ∙ and-true (p n) ∙ ap p e)
    (λ (e : n ≡ x → ⊥). ap (λ b. b || (p n && nat_eq n x)) (listed_any n p x (omega (arith, e)))
    ∙ ap (λ b. p x || (p n && b)) (ne_eqb n x e) ∙ ap (λ b. p x || b) (and-false (p n)) ∙ or-false (p x))
    (cases_eq n x)

-- what is listed lies below the bound
pub listed_below : (m n : ℕ) (p : ℕ → Bool) → m ≤ n → AllBelow (listed m p) n
listed_below zero n p l = All-nil (λ (x : ℕ). x < n)
listed_below (suc m) n p l =
    All-append (λ (x : ℕ). x < n) (listed m p) (cond (p m) (m ∷ []) []) (listed_below m n p (omega arith)) (last (p m))
  where
    last : (b : Bool) → All (λ (x : ℕ). x < n) (cond b (m ∷ []) [])
    last true = search (arith, l)
    last false = All-nil (λ (x : ℕ). x < n)
