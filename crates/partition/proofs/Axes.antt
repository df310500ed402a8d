-- Steps of searches for the greatest and the least value, and for the largest spread.
use Rattle.std.proofs.Common.{◌≡◌, ℕ, ℤ, ◌+◌, ◌-◌, ◌<◌, ◌≤◌, List, length, get_or, arith, ⊎_elim, subst}
use Rattle.std.proofs.lemmas.Bool.{cases_eq}
use Rattle.partition.specs.Bisect.{height, IsSpread}

-- a new least value
pub lower_step : (f : ℕ → ℕ) (least place here : ℕ) → here ≡ f place → ((k : ℕ) → k < place → least ≤ f k) → here < least → (k : ℕ) → k < place + 1 → here ≤ f k
lower_step f least place here p h l k lk = ⊎_elim
    (λ (e : k ≡ place). rw e (omega (arith, p)))
    (λ (n : k ≡ place → ⊥). let a : least ≤ f k = h k (omega arith) in omega (arith, a, l))
    (cases_eq k place)

-- the least value stays
pub lower_kept : (f : ℕ → ℕ) (least place here : ℕ) → here ≡ f place → ((k : ℕ) → k < place → least ≤ f k) → least ≤ here → (k : ℕ) → k < place + 1 → least ≤ f k
lower_kept f least place here p h l k lk = ⊎_elim
    (λ (e : k ≡ place). rw e (omega (arith, p, l)))
    (λ (n : k ≡ place → ⊥). h k (omega arith))
    (cases_eq k place)

-- a new greatest value
pub higher_step : (f : ℕ → ℕ) (most place here : ℕ) → here ≡ f place → ((k : ℕ) → k < place → f k ≤ most) → most < here → (k : ℕ) → k < place + 1 → f k ≤ here
higher_step f most place here p h l k lk = ⊎_elim
    (λ (e : k ≡ place). rw e (omega (arith, p)))
    (λ (n : k ≡ place → ⊥). let a : f k ≤ most = h k (omega arith) in omega (arith, a, l))
    (cases_eq k place)

-- the greatest value stays
pub higher_kept : (f : ℕ → ℕ) (most place here : ℕ) → here ≡ f place → ((k : ℕ) → k < place → f k ≤ most) → here ≤ most → (k : ℕ) → k < place + 1 → f k ≤ most
higher_kept f most place here p h l k lk = ⊎_elim
    (λ (e : k ≡ place). rw e (omega (arith, p, l)))
    (λ (n : k ≡ place → ⊥). h k (omega arith))
    (cases_eq k place)

-- the spread from the greatest and the least value
pub spread_from : (values : List ℤ) (dim a : ℕ) (xs : List ℕ) (high low most least : ℕ) → high < length xs → low < length xs
    → ((k : ℕ) → k < length xs → height values dim a (get_or xs k 0) ≤ most)
    → ((k : ℕ) → k < length xs → least ≤ height values dim a (get_or xs k 0)) → height values dim a (get_or xs high 0) ≡ most
    → height values dim a (get_or xs low 0) ≡ least → IsSpread values dim a xs (most - least)
spread_from values dim a xs high low most least lh ll up down p q = record {
  most = λ i j li lj. (let u = up i li in let v = down j lj in omega (arith, u, v));
  high = high;
  low = low;
  high_in = lh;
  low_in = ll;
  reached = (let u = up low ll in omega (arith, u, p, q));
}

-- there is one spread
pub spread_le : (values : List ℤ) (dim a : ℕ) (xs : List ℕ) (d e : ℕ) → IsSpread values dim a xs d → IsSpread values dim a xs e → d ≤ e
spread_le values dim a xs d e s t = omega (arith, s.reached, t.most s.high s.low s.high_in s.low_in)

-- an axis more, of a larger spread or not
pub axis_larger : (values : List ℤ) (dim : ℕ) (xs : List ℕ) (axis most found : ℕ)
    → ((b : ℕ) (d : ℕ) → b < axis → IsSpread values dim b xs d → d ≤ most) → IsSpread values dim axis xs found → most < found
    → (b : ℕ) (d : ℕ) → b < axis + 1 → IsSpread values dim b xs d → d ≤ found
axis_larger values dim xs axis most found h s l b d lb t = ⊎_elim
    (λ (e : b ≡ axis). spread_le values dim axis xs d found (subst (λ (z : ℕ). IsSpread values dim z xs d) e t) s)
    (λ (n : b ≡ axis → ⊥). let a : d ≤ most = h b d (omega arith) t in omega (arith, a, l))
    (cases_eq b axis)

pub axis_strict : (values : List ℤ) (dim : ℕ) (xs : List ℕ) (axis most found : ℕ)
    → ((b : ℕ) (d : ℕ) → b < axis → IsSpread values dim b xs d → d ≤ most) → most < found → (b : ℕ) (d : ℕ) → b < axis
    → IsSpread values dim b xs d → d < found
axis_strict values dim xs axis most found h l b d lb t = let a : d ≤ most = h b d lb t in omega (arith, a, l)

pub axis_kept : (values : List ℤ) (dim : ℕ) (xs : List ℕ) (axis most found : ℕ)
    → ((b : ℕ) (d : ℕ) → b < axis → IsSpread values dim b xs d → d ≤ most) → IsSpread values dim axis xs found → found ≤ most
    → (b : ℕ) (d : ℕ) → b < axis + 1 → IsSpread values dim b xs d → d ≤ most
axis_kept values dim xs axis most found h s l b d lb t = ⊎_elim
    (λ (e : b ≡ axis). let a : d ≤ found = spread_le values dim axis xs d found (subst (λ (z : ℕ). IsSpread values dim z xs d) e t) s in omega (arith, a, l))
    (λ (n : b ≡ axis → ⊥). h b d (omega arith) t)
    (cases_eq b axis)
