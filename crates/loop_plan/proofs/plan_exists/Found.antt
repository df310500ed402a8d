-- Where a number stands in a list.
use Rattle.std.proofs.Common.{◌≡◌, ◌<◌, ℕ, zero, suc, nat_eq, cond, List, [], ◌∷◌, length, get_or, arith, ⊎_elim}
use Rattle.std.specs.List.{Contains}
use Rattle.std.proofs.lemmas.Bool.{cases_eq, eq-eqb, ne_eqb}
use Rattle.lemmas.proofs.Lists.{contains_at}

-- the first place
pub found : ℕ → List ℕ → ℕ
found y [] = 0
found y (x ∷ xs) = cond (nat_eq x y) 0 (suc (found y xs))

pub found_at : (y : ℕ) (xs : List ℕ) (k : ℕ) → k < length xs → get_or xs k 0 ≡ y → (found y xs < length xs) × (get_or xs (found y xs) 0 ≡ y)
unfolding found
found_at y [] k l e = absurd (omega arith)
found_at y (x ∷ xs) k l e = ⊎_elim
    (λ (h : x ≡ y). rw (eq-eqb x y h) (omega arith, h))
    (λ (h : x ≡ y → ⊥).
    let w = later (found_at y xs) k l e h in
    rw (ne_eqb x y h) (let s = w.0 in omega arith, w.1))
    (cases_eq x y)
  where
    later : ((k : ℕ) → k < length xs → get_or xs k 0 ≡ y → (found y xs < length xs) × (get_or xs (found y xs) 0 ≡ y)) → (k : ℕ)
        → k < length (x ∷ xs) → get_or (x ∷ xs) k 0 ≡ y → (x ≡ y → ⊥) → (found y xs < length xs) × (get_or xs (found y xs) 0 ≡ y)
    later rest zero l e h = absurd (h e)
    later rest (suc k) l e h = rest k (omega arith) e

pub found_in : (y : ℕ) (xs : List ℕ) → Contains xs y → (found y xs < length xs) × (get_or xs (found y xs) 0 ≡ y)
found_in y xs c = let w = contains_at xs y c in found_at y xs c.0 c.1 w
