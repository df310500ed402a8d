-- Gathered lists, and the numbers that pass a test.
use Rattle.std.proofs.Common.{◌≡◌, ℕ, zero, suc, ◌<◌, refl, sym, ap, subst, ◌∙◌, arith, ⊎_elim, Bool, true, false, cond, List, [], ◌∷◌, ◌++◌}
use Rattle.std.specs.Prelude.{◌&&◌}
use Rattle.std.specs.List.{filter}
use Rattle.std.proofs.lemmas.Bool.{cases_eq}
use Rattle.std.proofs.lemmas.List.Elements.{filter-append}
use Rattle.schedule_steps.specs.Drawn.{numbers}
use Rattle.schedule_steps.specs.Standard.{above}
use Rattle.step_orders.specs.Order.{gathered}

pub gathered_same : (p q : ℕ → List ℕ) (n : ℕ) → ((i : ℕ) → p i ≡ q i) → gathered p n ≡ gathered q n
gathered_same p q zero e = refl
gathered_same p q (suc n) e = ap (λ z. z ++ p n) (gathered_same p q n e) ∙ ap (λ z. gathered q n ++ z) (e n)

pub filter_numbers : (t s : ℕ → Bool) (n : ℕ) → filter t (numbers s n) ≡ numbers (λ x. s x && t x) n
filter_numbers t s zero = refl
filter_numbers t s (suc n) =
    filter-append t (numbers s n) (cond (s n) (n ∷ []) [])
    ∙ (ap (λ z. z ++ filter t (cond (s n) (n ∷ []) [])) (filter_numbers t s n)
    ∙ ap (λ z. numbers (λ x. s x && t x) n ++ z) (one (s n)))
  where
    one : (b : Bool) → filter t (cond b (n ∷ []) []) ≡ cond (b && t n) (n ∷ []) []
    one true = refl
    one false = refl

pub numbers_same : (s t : ℕ → Bool) (n : ℕ) → ((x : ℕ) → x < n → s x ≡ t x) → numbers s n ≡ numbers t n
numbers_same s t zero h = refl
numbers_same s t (suc n) h =
    ap (λ z. z ++ cond (s n) (n ∷ []) []) (numbers_same s t n (λ x lt. h x (omega arith)))
    ∙ ap (λ b. numbers t n ++ cond b (n ∷ []) []) (h n (omega arith))

pub below_above : (f : ℕ → ℕ) (n x : ℕ) → x < n → f x < above f n
below_above f zero x lt = absurd (omega arith)
below_above f (suc n) x lt = ⊎_elim
    (λ (e : x ≡ n). subst (λ z. f z < above f (suc n)) (sym e) (omega arith))
    (λ (ne : x ≡ n → ⊥). let l : x < n = omega arith in let b : f x < above f n = below_above f n x l in omega arith)
    (cases_eq x n)
