-- How many numbers are selected, and that as many sides are the first of a face of two as are the second.
use Rattle.std.proofs.Common.{◌≡◌, ℕ, zero, suc, ◌+◌, ◌*◌, ◌<◌, ◌≤◌, ◌∙◌, arith, ⊎_elim, List, length, take, get_or, Bool, true, false, nat_eq, nat_lt, refl, sym, ap, subst}
use Rattle.std.proofs.lemmas.Bool.{cases_lt}
use Rattle.std.proofs.lemmas.Bool.Decides.{nat_tests}
use Rattle.std.proofs.lemmas.List.{get_or-take, length-take-le}
use Rattle.gmsh_mesh.specs.FaceLists.{IsSelection, IsInner, IsOuter, AreFaces}
use Rattle.gmsh_mesh.specs.Sums.{sum_below, one_if, AreMutual}

sum-none : (f : ℕ → ℕ) → sum_below 0 f ≡ 0
unfolding sum_below
sum-none f = refl

sum-more : (n : ℕ) (f : ℕ → ℕ) → sum_below (suc n) f ≡ sum_below n f + f n
unfolding sum_below
sum-more n f = refl

sum-same : (n : ℕ) (f g : ℕ → ℕ) → ((i : ℕ) → i < n → f i ≡ g i) → sum_below n f ≡ sum_below n g
sum-same zero f g h = sum-none f ∙ sym (sum-none g)
sum-same (suc n) f g h = omega (arith, sum-more n f, sum-more n g, sum-same n f g (λ i l. h i (omega arith)), h n (omega arith))

sum-zero : (n : ℕ) (f : ℕ → ℕ) → ((i : ℕ) → i < n → f i ≡ 0) → sum_below n f ≡ 0
sum-zero zero f h = sum-none f
sum-zero (suc n) f h = omega (arith, sum-more n f, sum-zero n f (λ i l. h i (omega arith)), h n (omega arith))

-- only one number counts
sum-one : (n k : ℕ) (f : ℕ → ℕ) → k < n → ((i : ℕ) → i < n → (i ≡ k → ⊥) → f i ≡ 0) → sum_below n f ≡ f k
sum-one zero k f l h = absurd (omega arith)
sum-one (suc n) k f l h = ⊎_elim
    (λ (a : k < n).
    omega (arith, sum-more n f, sum-one n k f a (λ i li ne. h i (omega arith) ne), h n (omega arith) (λ e. omega (arith, a, e))))
    (λ (a : n ≤ k).
    let e : k ≡ n = omega arith in
    omega (arith, sum-more n f, sum-zero n f (λ i li. h i (omega arith) (λ q. omega (arith, li, q, e))), ap f e))
    (cases_lt k n)

sum-plus : (n : ℕ) (f g : ℕ → ℕ) → sum_below n (λ i. f i + g i) ≡ sum_below n f + sum_below n g
sum-plus zero f g = omega (arith, sum-none (λ i. f i + g i), sum-none f, sum-none g)
sum-plus (suc n) f g = omega (arith, sum-more n (λ i. f i + g i), sum-more n f, sum-more n g, sum-plus n f g)

-- sums over pairs, in either order
sum-swap : (n m : ℕ) (f : ℕ → ℕ → ℕ) → sum_below n (λ i. sum_below m (f i)) ≡ sum_below m (λ j. sum_below n (λ i. f i j))
sum-swap zero m f = sum-none (λ i. sum_below m (f i)) ∙ sym (sum-zero m (λ j. sum_below 0 (λ i. f i j)) (λ j l. sum-none (λ i. f i j)))
sum-swap (suc n) m f =
    sum-more n (λ i. sum_below m (f i))
    ∙ ap (λ x. x + sum_below m (f n)) (sum-swap n m f)
    ∙ sym (sum-plus m (λ j. sum_below n (λ i. f i j)) (f n))
    ∙ sym (sum-same m (λ j. sum_below (suc n) (λ i. f i j)) (λ j. sum_below n (λ i. f i j) + f n j) (λ j l. sum-more n (λ i. f i j)))

sum-ones : (n : ℕ) → sum_below n (λ i. 1) ≡ n
sum-ones zero = sum-none (λ i. 1)
sum-ones (suc n) = omega (arith, sum-more n (λ i. 1), sum-ones n)

-- a selection has as many numbers as there are
module _ (P : ℕ → Type 0) (p : ℕ → Bool) (to : (i : ℕ) → p i ≡ true → P i) (from : (i : ℕ) → P i → p i ≡ true) where
  empty : (list : List ℕ) → IsSelection P 0 list → length list ≡ 0
  empty list s = ⊎_elim
      (λ (a : 0 < length list). let h = s.each 0 a in absurd (omega (arith, h.0)))
      (λ (a : length list ≤ 0). omega arith)
      (cases_lt 0 (length list))

  without : (n : ℕ) (list : List ℕ) → p n ≡ false → IsSelection P (suc n) list → IsSelection P n list
  without n list off s = record {
    rises = s.rises;
    each = λ k l.
        let h = s.each k l in
        ⊎_elim
        (λ (a : get_or list k 0 < n). (a, h.1))
        (λ (a : n ≤ get_or list k 0).
        let e : get_or list k 0 ≡ n = omega (arith, h.0) in
        let t : true ≡ false = sym (from n (subst P e h.1)) ∙ off in
        cc)
        (cases_lt (get_or list k 0) n);
    all = λ i l q. s.all i (omega arith) q;
  }

  before : (n k : ℕ) (list : List ℕ) → k + 1 ≡ length list → get_or list k 0 ≡ n → IsSelection P (suc n) list → IsSelection P n (take k list)
  before n k list e at s =
      let size : length (take k list) ≡ k = length-take-le k list (omega arith) in
      record {
        rises = λ a b h l.
            let lb : b < k = omega (arith, size) in
            omega (arith, get_or-take k list a 0 (omega (arith, h, lb)), get_or-take k list b 0 lb, s.rises a b h (omega (arith, lb, e)));
        each = λ j l.
            let lj : j < k = omega (arith, size) in
            let h = s.each j (omega (arith, lj, e)) in
            let r = s.rises j k lj (omega arith) in
            subst (λ v. (v < n) × P v) (sym (get_or-take k list j 0 lj)) (omega (arith, r, at), h.1);
        all = λ i l q.
            let h = s.all i (omega arith) q in
            ⊎_elim
            (λ (a : h.0 < k). (h.0, omega (arith, size, a), get_or-take k list h.0 0 a ∙ h.2))
            (λ (a : k ≤ h.0).
            let same : h.0 ≡ k = omega (arith, h.1, e) in
            let v : i ≡ n = sym h.2 ∙ ap (λ x. get_or list x 0) same ∙ at in
            absurd (omega (arith, l, v)))
            (cases_lt h.0 k);
      }

  last-at : (n k : ℕ) (list : List ℕ) → k < length list → get_or list k 0 ≡ n → IsSelection P (suc n) list → k + 1 ≡ length list
  last-at n k list l at s = ⊎_elim
      (λ (a : k + 1 < length list).
      let h = s.each (k + 1) a in
      let r = s.rises k (k + 1) (omega arith) a in
      absurd (omega (arith, h.0, r, at)))
      (λ (a : length list ≤ k + 1). omega arith)
      (cases_lt (k + 1) (length list))

  one-more : (n : ℕ) (list : List ℕ) → ((before : List ℕ) → IsSelection P n before → length before ≡ sum_below n (λ i. one_if (p i))) → IsSelection P (suc n) list
      → (b : Bool) → p n ≡ b
      → length list ≡ sum_below (suc n) (λ i. one_if (p i))
  one-more n list sizes s false e = omega (arith, sum-more n (λ i. one_if (p i)), sizes list (without n list e s), ap one_if e)
  one-more n list sizes s true e =
      let h = s.all n (omega arith) (to n e) in
      let at = last-at n h.0 list h.1 h.2 s in
      let size : length (take h.0 list) ≡ h.0 = length-take-le h.0 list (omega (arith, h.1)) in
      omega (arith, sum-more n (λ i. one_if (p i)), sizes (take h.0 list) (before n h.0 list at h.2 s), ap one_if e, size, at)

  pub selected : (n : ℕ) (list : List ℕ) → IsSelection P n list → length list ≡ sum_below n (λ i. one_if (p i))
  selected zero list s = empty list s ∙ sym (sum-none (λ i. one_if (p i)))
  selected (suc n) list s = one-more n list (selected n) s (p n) refl

-- a number, where it is so
abbrev pub counted : Bool → ℕ → ℕ
counted true x = x
counted false x = 0

-- pairs of a side and its mate, in rising order
abbrev pair : List ℕ → ℕ → ℕ → ℕ
pair mates i j = counted (nat_eq j (get_or mates i 0)) (one_if (nat_lt i j))

module _ (mates : List ℕ) (n : ℕ) (m : AreMutual mates n) where
  by-first : (i : ℕ) → i < n → sum_below n (pair mates i) ≡ one_if (nat_lt i (get_or mates i 0))
  by-first i l =
      sum-one n (get_or mates i 0) (pair mates i) (m.below i l)
      (λ j lj ne. let other : nat_eq j (get_or mates i 0) ≡ false = grind (arith, nat_tests, ne) in
      ap (λ b. counted b (one_if (nat_lt i j))) other)
      ∙ (let yes : nat_eq (get_or mates i 0) (get_or mates i 0) ≡ true = grind (arith, nat_tests) in
      ap (λ b. counted b (one_if (nat_lt i (get_or mates i 0)))) yes)

  by-second : (j : ℕ) → j < n → sum_below n (λ i. pair mates i j) ≡ one_if (nat_lt (get_or mates j 0) j)
  by-second j l =
      sum-one n (get_or mates j 0) (λ i. pair mates i j) (m.below j l)
      (λ i li ne.
      let other : nat_eq j (get_or mates i 0) ≡ false = grind (arith, nat_tests, (λ (e : j ≡ get_or mates i 0). ne (sym (m.back i li) ∙ ap (λ x. get_or mates x 0) (sym e)))) in
      ap (λ b. counted b (one_if (nat_lt i j))) other)
      ∙ (let yes : nat_eq j (get_or mates (get_or mates j 0) 0) ≡ true = grind (arith, nat_tests, m.back j l) in
      ap (λ b. counted b (one_if (nat_lt (get_or mates j 0) j))) yes)

  as-many : sum_below n (λ i. one_if (nat_lt i (get_or mates i 0))) ≡ sum_below n (λ i. one_if (nat_lt (get_or mates i 0) i))
  as-many =
      sym (sum-same n (λ i. sum_below n (pair mates i)) (λ i. one_if (nat_lt i (get_or mates i 0))) by-first)
      ∙ sum-swap n n (pair mates)
      ∙ sum-same n (λ j. sum_below n (λ i. pair mates i j)) (λ j. one_if (nat_lt (get_or mates j 0) j)) by-second

  each-one : (i : ℕ) → one_if (nat_lt i (get_or mates i 0)) + one_if (nat_eq i (get_or mates i 0)) + one_if (nat_lt (get_or mates i 0) i) ≡ 1
  each-one i = ⊎_elim
      (λ (a : i < get_or mates i 0).
      let x : nat_lt i (get_or mates i 0) ≡ true = grind (arith, nat_tests) in
      let y : nat_eq i (get_or mates i 0) ≡ false = grind (arith, nat_tests) in
      let z : nat_lt (get_or mates i 0) i ≡ false = grind (arith, nat_tests) in
      omega (arith, ap one_if x, ap one_if y, ap one_if z))
      (λ (a : get_or mates i 0 ≤ i).
      let x : nat_lt i (get_or mates i 0) ≡ false = grind (arith, nat_tests) in
      ⊎_elim
      (λ (b : get_or mates i 0 < i).
      let y : nat_eq i (get_or mates i 0) ≡ false = grind (arith, nat_tests) in
      let z : nat_lt (get_or mates i 0) i ≡ true = grind (arith, nat_tests) in
      omega (arith, ap one_if x, ap one_if y, ap one_if z))
      (λ (b : i ≤ get_or mates i 0).
      let y : nat_eq i (get_or mates i 0) ≡ true = grind (arith, nat_tests) in
      let z : nat_lt (get_or mates i 0) i ≡ false = grind (arith, nat_tests) in
      omega (arith, ap one_if x, ap one_if y, ap one_if z))
      (cases_lt (get_or mates i 0) i))
      (cases_lt i (get_or mates i 0))

  pub all-sides : (firsts alone : List ℕ) → AreFaces mates n firsts alone → 2 * length firsts + length alone ≡ n
  all-sides firsts alone f =
      let a = selected (IsInner mates) (λ i. nat_lt i (get_or mates i 0)) (λ i t. grind (arith, nat_tests, t)) (λ i t. grind (arith, nat_tests, t)) n firsts f.inner in
      let b = selected (IsOuter mates) (λ i. nat_eq i (get_or mates i 0)) (λ i t. grind (arith, nat_tests, t)) (λ i t. grind (arith, nat_tests, t)) n alone f.outer in
      let c = sum-plus n (λ i. one_if (nat_lt i (get_or mates i 0)) + one_if (nat_eq i (get_or mates i 0))) (λ i. one_if (nat_lt (get_or mates i 0) i)) in
      let d = sum-plus n (λ i. one_if (nat_lt i (get_or mates i 0))) (λ i. one_if (nat_eq i (get_or mates i 0))) in
      let e = sum-same n (λ i. one_if (nat_lt i (get_or mates i 0)) + one_if (nat_eq i (get_or mates i 0)) + one_if (nat_lt (get_or mates i 0) i)) (λ i. 1) (λ i l. each-one i) in
      omega (arith, a, b, c, d, e, sum-ones n, as-many)
