-- What stands in a list of numbers.
use Rattle.std.proofs.Common.{◌≡◌, ℕ, ◌<◌, ◌≤◌, Bool, true, false, nat_eq, List, [], length, get_or, refl, ap, ◌∙◌, arith, ⊎_elim, subst}
use Rattle.std.specs.List.{Contains}
use Rattle.std.proofs.lemmas.Bool.{cases_lt, eq-eqb, eqb-true}
use Rattle.std.proofs.lemmas.List.{get_or_default}
use Rattle.lemmas.specs.Below.{any_below, count_below, listed}
use Rattle.lemmas.proofs.Below.{any_witness, any_from, at_listed, listed_at, length_listed, count_lt}
use Rattle.local_mesh.specs.Standing.{stands}
use Rattle.lemmas.proofs.Truth.{iff_eq}

-- a number below n stands in the list of those that pass where it passes
pub stands_listed : (n : ℕ) (p : ℕ → Bool) (xs : List ℕ) (y : ℕ) → xs ≡ listed n p → y < n → stands xs y ≡ p y
unfolding stands
stands_listed n p xs y e l = ap (λ (z : List ℕ). any_below (length z) (λ k. nat_eq (get_or z k 0) y)) e
    ∙ iff_eq (any_below (length (listed n p)) (λ k. nat_eq (get_or (listed n p) k 0) y)) (p y)
    (λ t.
    let w = any_witness (length (listed n p)) (λ k. nat_eq (get_or (listed n p) k 0) y) t in
    let a = at_listed n w.0 0 p (rw (← length_listed n p) w.1) in
    subst (λ z. p z ≡ true) (eqb-true (get_or (listed n p) w.0 0) y w.2) a.1)
    (λ t. any_from (length (listed n p)) (λ k. nat_eq (get_or (listed n p) k 0) y) (count_below y p)
    (rw (length_listed n p) (count_lt y n p l t)) (eq-eqb (get_or (listed n p) (count_below y p) 0) y (listed_at n y 0 p l t)))

-- nothing stands in no list
pub stands_nothing : (y : ℕ) → stands [] y ≡ false
unfolding stands
stands_nothing y = refl

pub contains_at : (xs : List ℕ) (k x : ℕ) → k < length xs → get_or xs k 0 ≡ x → Contains xs x
contains_at xs k x l e = (k, l, get_or_default xs k x 0 l ∙ e)

-- a number that passes stands in the list
pub listed_contains : (n : ℕ) (p : ℕ → Bool) (x : ℕ) → x < n → p x ≡ true → Contains (listed n p) x
listed_contains n p x l t = contains_at (listed n p) (count_below x p) x (rw (length_listed n p) (count_lt x n p l t)) (listed_at n x 0 p l t)

-- the list rises
pub listed_rises : (n : ℕ) (p : ℕ → Bool) (i j : ℕ) → i ≤ j → j < length (listed n p) → get_or (listed n p) i 0 ≤ get_or (listed n p) j 0
listed_rises n p i j le l =
    let e = length_listed n p in
    let lj : j < count_below n p = omega arith in
    let li : i < count_below n p = omega arith in
    let a = at_listed n i 0 p li in
    let b = at_listed n j 0 p lj in
    ⊎_elim
    (λ (m : get_or (listed n p) j 0 < get_or (listed n p) i 0).
    let c : count_below (get_or (listed n p) j 0) p < count_below (get_or (listed n p) i 0) p = count_lt (get_or (listed n p) j 0) (get_or (listed n p) i 0) p m b.1 in
    absurd (omega (arith, a.2, b.2)))
    (λ (m : get_or (listed n p) i 0 ≤ get_or (listed n p) j 0). m)
    (cases_lt (get_or (listed n p) j 0) (get_or (listed n p) i 0))
