-- What digits spell.
use Rattle.std.proofs.Common.{ℕ, suc, ◌+◌, ◌*◌, ◌-◌, ◌≤◌, ◌<◌, List, [], ◌∷◌, length, drop, get_or, arith, drop-cons}
use Rattle.c_tree.specs.Spelling.{value_behind}

-- more digits never make less
pub value_grows : (n : ℕ) (bs : List ℕ) → n ≤ value_behind n bs
value_grows n [] = omega arith
value_grows n (b ∷ bs) = omega (arith, value_grows (10 * n + (b - 48)) bs)

-- one digit more
pub value_next : (n i : ℕ) (bs : List ℕ) → i < length bs → 10 * n + (get_or bs i 0 - 48) ≤ value_behind n (drop i bs)
value_next n i bs h =
    rw (drop-cons bs i 0) (value_grows (10 * n + (get_or bs i 0 - 48)) (drop (suc i) bs))

pub value_at_least : (n i : ℕ) (bs : List ℕ) → i < length bs → 10 * n ≤ value_behind n (drop i bs)
value_at_least n i bs h = omega (arith, value_next n i bs h)
