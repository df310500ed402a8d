use Rattle.std.proofs.Common.{◌≡◌, ℕ, ◌<◌, ◌≤◌, arith, ⊎_elim, List, length, get_or}
use Rattle.std.proofs.lemmas.Bool.{cases_lt}
use Rattle.step_judge.specs.Ranked.{Point, Ranked}

-- a lower number that stands in the list has a lower point
pub point_less : (sorted : List ℕ) (c d r s k : ℕ) → Point sorted c r → Point sorted d s → k < length sorted → get_or sorted k 0 ≡ c → c < d → r < s
point_less sorted c d r s k p q lt e less = ⊎_elim
    (λ (a : r < s). a)
    (λ (a : s ≤ r).
    ⊎_elim
    (λ (x : k < r). absurd (let y : get_or sorted k 0 < c = p.below k x in omega arith))
    (λ (x : r ≤ k). absurd (let y : d ≤ get_or sorted k 0 = q.above k (omega arith) lt in omega arith))
    (cases_lt k r))
    (cases_lt r s)

pub point_back : (sorted : List ℕ) (c d r s : ℕ) → Point sorted c r → Point sorted d s → r < s → c < d
point_back sorted c d r s p q less = ⊎_elim
    (λ (a : c < d). a)
    (λ (a : d ≤ c). absurd (let n : s ≤ length sorted = q.within in let x : get_or sorted r 0 < d = q.below r less in
    let y : c ≤ get_or sorted r 0 = p.above r (omega arith) (omega arith) in omega arith))
    (cases_lt c d)

pub point_small : (sorted : List ℕ) (c r k : ℕ) → Point sorted c r → k < length sorted → get_or sorted k 0 ≡ c → r < length sorted
point_small sorted c r k p lt e = ⊎_elim
    (λ (x : k < r). absurd (let y : get_or sorted k 0 < c = p.below k x in omega arith))
    (λ (x : r ≤ k). omega arith)
    (cases_lt k r)

pub ranked_from : (colours sorted of : List ℕ) → length of ≡ length colours → length sorted ≡ length colours
    → ((i : ℕ) → i < length colours → (k : ℕ) × (k < length sorted) × (get_or sorted k 0 ≡ get_or colours i 0))
    → ((i : ℕ) → i < length colours → Point sorted (get_or colours i 0) (get_or of i 0)) → Ranked colours of
ranked_from colours sorted of n m there points = record {
  size = n;
  small = λ i il. (let g : (k : ℕ) × (k < length sorted) × (get_or sorted k 0 ≡ get_or colours i 0) = there i il in
      let a : get_or of i 0 < length sorted = point_small sorted (get_or colours i 0) (get_or of i 0) g.0 (points i il) g.1 g.2 in
      omega arith);
  order = λ i j il jl. (
    (λ h. point_back sorted (get_or colours i 0) (get_or colours j 0) (get_or of i 0) (get_or of j 0) (points i il) (points j jl) h),
    (λ h. (let g : (k : ℕ) × (k < length sorted) × (get_or sorted k 0 ≡ get_or colours i 0) = there i il in
        point_less sorted (get_or colours i 0) (get_or colours j 0) (get_or of i 0) (get_or of j 0) g.0 (points i il) (points j jl) g.1 g.2
        h)),
  );
}
