-- Which numbers stand in a list of those below a bound.
use Rattle.std.proofs.Common.{◌≡◌, ◌<◌, ◌≤◌, ℕ, zero, suc, Bool, true, false, cond, refl, sym, ap, ◌∙◌, arith, ⊎_elim, [], ◌∷◌}
use Rattle.std.specs.Prelude.{◌&&◌, ◌||◌, not, nat_eq}
use Rattle.std.specs.List.{list_any}
use Rattle.std.proofs.lemmas.Bool.{cases_eq, ne_eqb, eq-eqb}
use Rattle.std.proofs.lemmas.List.Folds.{list_any-append}
use Rattle.lemmas.specs.Below.{listed}
use Rattle.std.proofs.Math.Bool.{and-false, and-true, or-false}

one_listed : (d n : ℕ) (b : Bool) → list_any (nat_eq d) (cond b (n ∷ []) []) ≡ (b && nat_eq d n)
one_listed d n true = or-false (nat_eq d n)
one_listed d n false = refl

more_listed : (d n : ℕ) (p : ℕ → Bool) → list_any (nat_eq d) (listed (suc n) p) ≡ (list_any (nat_eq d) (listed n p) || (p n && nat_eq d n))
more_listed d n p = list_any-append (nat_eq d) (listed n p) (cond (p n) (n ∷ []) []) ∙ ap (λ z. list_any (nat_eq d) (listed n p) || z) (one_listed d n (p n))

pub not_listed : (d n : ℕ) (p : ℕ → Bool) → n ≤ d → list_any (nat_eq d) (listed n p) ≡ false
not_listed d zero p l = refl
not_listed d (suc n) p l =
    more_listed d n p
    ∙ (ap (λ z. z || (p n && nat_eq d n)) (not_listed d n p (omega arith))
    ∙ (ap (λ z. p n && z) (ne_eqb d n (λ e. omega arith)) ∙ and-false (p n)))

pub is_listed : (d n : ℕ) (p : ℕ → Bool) → d < n → list_any (nat_eq d) (listed n p) ≡ p d
is_listed d zero p l = absurd (omega arith)
is_listed d (suc n) p l = ⊎_elim
    (λ (e : d ≡ n).
    more_listed d n p
    ∙ (ap (λ z. z || (p n && nat_eq d n)) (not_listed d n p (omega arith))
    ∙ (ap (λ z. p n && z) (eq-eqb d n e) ∙ (and-true (p n) ∙ ap p (sym e)))))
    (λ (ne : d ≡ n → ⊥).
    more_listed d n p
    ∙ (ap (λ z. z || (p n && nat_eq d n)) (is_listed d n p (omega arith))
    ∙ (ap (λ z. p d || (p n && z)) (ne_eqb d n ne) ∙ (ap (λ z. p d || z) (and-false (p n)) ∙ or-false (p d)))))
    (cases_eq d n)

-- a bit that is cleared where it is set and needed, and then set where the dat is modified
pub bit_step : (a n m : Bool) → ((a && not (a && n)) || m) ≡ (m || (a && not n))
bit_step true true true = refl
bit_step true true false = refl
bit_step true false true = refl
bit_step true false false = refl
bit_step false n true = refl
bit_step false n false = refl
