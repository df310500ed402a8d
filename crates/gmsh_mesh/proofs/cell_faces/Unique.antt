-- Rows in rising order that have the same nodes are the same.
use Rattle.std.proofs.Common.{◌≡◌, ℕ, suc, ◌+◌, ◌<◌, ◌≤◌, ◌∙◌, nat_eq, true, false, arith, ⊎_elim, List, [], ◌∷◌, length, get_or, refl, sym, ap}
use Rattle.std.proofs.lemmas.Bool.{cases_lt}
use Rattle.std.proofs.lemmas.Bool.Decides.{nat_tests}
use Rattle.std.specs.Prelude.{if◌then◌else◌}
use Rattle.std.proofs.lemmas.List.Sums.{sum_by-cons}
use Rattle.std.specs.List.Sorted.{IsNonDecreasing}
use Rattle.gmsh_mesh.specs.Nodes.{times, IsSameNodes}

times-cons : (x d : ℕ) (ds : List ℕ) → times x (d ∷ ds) ≡ (if nat_eq d x then 1 else 0) + times x ds
times-cons x d ds = sum_by-cons (λ y. if nat_eq y x then 1 else 0) d ds

times-self : (x : ℕ) (ds : List ℕ) → times x (x ∷ ds) ≡ 1 + times x ds
times-self x ds = let e : nat_eq x x ≡ true = grind (arith, nat_tests) in times-cons x x ds ∙ rw e refl

times-other : (x d : ℕ) (ds : List ℕ) → x < d → times x (d ∷ ds) ≡ times x ds
times-other x d ds h = let e : nat_eq d x ≡ false = grind (arith, nat_tests) in times-cons x d ds ∙ rw e (omega arith)

low-none : (x : ℕ) (ds : List ℕ) → ((k : ℕ) → k < length ds → x < get_or ds k 0) → times x ds ≡ 0
low-none x [] h = refl
low-none x (d ∷ ds) h = times-other x d ds (h 0 (omega arith)) ∙ low-none x ds (λ k l. h (suc k) (omega arith))

tail-rises : (d : ℕ) (ds : List ℕ) → IsNonDecreasing (d ∷ ds) → IsNonDecreasing ds
tail-rises d ds h = λ i j e le l. h (suc i) (suc j) e (omega arith) (omega arith)

low-first : (x d : ℕ) (ds : List ℕ) → IsNonDecreasing (d ∷ ds) → x < d → times x (d ∷ ds) ≡ 0
low-first x d ds h l = low-none x (d ∷ ds) (λ k m. let a : d ≤ get_or (d ∷ ds) k 0 = h 0 k 0 (omega arith) m in omega arith)

pub unique : (xs ys : List ℕ) → IsNonDecreasing xs → IsNonDecreasing ys → IsSameNodes xs ys → xs ≡ ys
unique [] [] a b s = refl
unique [] (y ∷ ys) a b s = absurd (omega (arith, s y, times-self y ys))
unique (x ∷ xs) [] a b s = absurd (omega (arith, s x, times-self x xs))
unique (x ∷ xs) (y ∷ ys) a b s = ⊎_elim
    (λ (l : x < y). absurd (omega (arith, s x, times-self x xs, low-first x y ys b l)))
    (λ (l : y ≤ x).
    ⊎_elim
    (λ (m : y < x). absurd (omega (arith, s y, times-self y ys, low-first y x xs a m)))
    (λ (m : x ≤ y).
    let e : x ≡ y = omega arith in
    ap (λ z. z ∷ xs) e ∙ ap (λ zs. y ∷ zs) (unique xs ys (tail-rises x xs a) (tail-rises y ys b) (λ z. less z x y xs ys e (s z))))
    (cases_lt y x))
    (cases_lt x y)
  where
    less : (z x y : ℕ) (xs ys : List ℕ) → x ≡ y → times z (x ∷ xs) ≡ times z (y ∷ ys) → times z xs ≡ times z ys
    less z x y xs ys e h = let k : times z (y ∷ xs) ≡ times z (y ∷ ys) = ap (λ w. times z (w ∷ xs)) (sym e) ∙ h in omega (arith, k, times-cons z y xs, times-cons z y ys)
