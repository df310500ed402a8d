-- Where the numbers below a key end.
use Rattle.std.proofs.Common.{◌≡◌, ℕ, ◌<◌, ◌≤◌, arith, ⊎_elim, List, length, get_or, subst}
use Rattle.std.proofs.lemmas.Bool.{cases_lt}
use Rattle.gmsh_mesh.specs.EqualKeys.{IsPoint, AreClasses}

-- a lower key that stands in the list has a lower point
pub point_less : (sorted : List ℕ) (c d r s k : ℕ) → IsPoint sorted c r → IsPoint sorted d s → k < length sorted → get_or sorted k 0 ≡ c → c < d → r < s
point_less sorted c d r s k p q lt e less = ⊎_elim
    (λ (a : r < s). a)
    (λ (a : s ≤ r).
    ⊎_elim
    (λ (x : k < r). absurd (let y : get_or sorted k 0 < c = p.below k x in omega arith))
    (λ (x : r ≤ k). absurd (let y : d ≤ get_or sorted k 0 = q.above k (omega arith) lt in omega arith))
    (cases_lt k r))
    (cases_lt r s)

-- one list has one point for a key
pub point_one : (sorted : List ℕ) (c r s : ℕ) → IsPoint sorted c r → IsPoint sorted c s → r ≡ s
point_one sorted c r s p q = ⊎_elim
    (λ (a : r < s). absurd (let n : s ≤ length sorted = q.within in let x : get_or sorted r 0 < c = q.below r a in
    let y : c ≤ get_or sorted r 0 = p.above r (omega arith) (omega arith) in omega arith))
    (λ (a : s ≤ r).
    ⊎_elim
    (λ (b : s < r). absurd (let n : r ≤ length sorted = p.within in let x : get_or sorted s 0 < c = p.below s b in
    let y : c ≤ get_or sorted s 0 = q.above s (omega arith) (omega arith) in omega arith))
    (λ (b : r ≤ s). omega arith)
    (cases_lt s r))
    (cases_lt r s)

pub point_small : (sorted : List ℕ) (c r k : ℕ) → IsPoint sorted c r → k < length sorted → get_or sorted k 0 ≡ c → r < length sorted
point_small sorted c r k p lt e = ⊎_elim
    (λ (x : k < r). absurd (let y : get_or sorted k 0 < c = p.below k x in omega arith))
    (λ (x : r ≤ k). omega arith)
    (cases_lt k r)

-- equal points are of equal keys
pub point_back : (sorted : List ℕ) (c d r s j k : ℕ) → IsPoint sorted c r → IsPoint sorted d s → j < length sorted → get_or sorted j 0 ≡ c → k < length sorted → get_or sorted k 0 ≡ d → r ≡ s → c ≡ d
point_back sorted c d r s j k p q lj ej lk ek e = ⊎_elim
    (λ (a : c < d). absurd (let x : r < s = point_less sorted c d r s j p q lj ej a in omega arith))
    (λ (a : d ≤ c).
    ⊎_elim
    (λ (b : d < c). absurd (let x : s < r = point_less sorted d c s r k q p lk ek b in omega arith))
    (λ (b : c ≤ d). omega arith)
    (cases_lt d c))
    (cases_lt c d)

pub classes_from : (keys sorted of : List ℕ) → length of ≡ length keys → length sorted ≡ length keys
    → ((i : ℕ) → i < length keys → (k : ℕ) × (k < length sorted) × (get_or sorted k 0 ≡ get_or keys i 0))
    → ((i : ℕ) → i < length keys → IsPoint sorted (get_or keys i 0) (get_or of i 0)) → AreClasses keys of
classes_from keys sorted of n m there points = record {
  size = n;
  small = λ i il. (let g : (k : ℕ) × (k < length sorted) × (get_or sorted k 0 ≡ get_or keys i 0) = there i il in
      let a : get_or of i 0 < length sorted = point_small sorted (get_or keys i 0) (get_or of i 0) g.0 (points i il) g.1 g.2 in
      omega arith);
  same = λ i j il jl. (
    (λ h. (let g : (k : ℕ) × (k < length sorted) × (get_or sorted k 0 ≡ get_or keys i 0) = there i il in
        let f : (k : ℕ) × (k < length sorted) × (get_or sorted k 0 ≡ get_or keys j 0) = there j jl in
        point_back sorted (get_or keys i 0) (get_or keys j 0) (get_or of i 0) (get_or of j 0) g.0 f.0 (points i il) (points j jl) g.1 g.2 f.1 f.2 h)),
    (λ h. point_one sorted (get_or keys j 0) (get_or of i 0) (get_or of j 0) (subst (λ k. IsPoint sorted k (get_or of i 0)) h (points i il)) (points j jl)),
  );
}
