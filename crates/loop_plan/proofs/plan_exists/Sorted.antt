-- A list in order of two keys.
use Rattle.std.proofs.Common.{◌<◌, ℕ, zero, suc, List, [], ◌∷◌, length, get_or, subst, arith, inl, inr, ◌⊎◌}
use Rattle.std.specs.List.Sorted.{IsPermutation}
use Rattle.std.proofs.lemmas.List.{get_or_default}
use Rattle.std.proofs.lemmas.List.Sorted.{IsPermutation-refl, IsPermutation-sym, IsPermutation-trans, IsPermutation-cons, IsPermutation-middle, All-permutation}
use Rattle.loop_plan.proofs.plan_exists.Picked.{By, by_total, by_trans}

module _ (f key : ℕ → ℕ) where
  insert_by : (x y : ℕ) → By f key x y ⊎ By f key y x → List ℕ → List ℕ → List ℕ
  insert_by x y (inl l) ys rest = x ∷ y ∷ ys
  insert_by x y (inr l) ys rest = y ∷ rest

  insert : ℕ → List ℕ → List ℕ
  insert x [] = x ∷ []
  insert x (y ∷ ys) = insert_by x y (by_total f key x y) ys (insert x ys)

  pub sorted : List ℕ → List ℕ
  sorted [] = []
  sorted (x ∷ xs) = insert x (sorted xs)

  swapped : (x y : ℕ) (ys : List ℕ) → IsPermutation (x ∷ y ∷ ys) (y ∷ x ∷ ys)
  swapped x y ys = IsPermutation-sym (y ∷ x ∷ ys) (x ∷ y ∷ ys) (IsPermutation-middle (y ∷ []) x ys)

  insert_same_by : (x y : ℕ) (d : By f key x y ⊎ By f key y x) (ys rest : List ℕ) → IsPermutation (x ∷ ys) rest → IsPermutation (x ∷ y ∷ ys) (insert_by x y d ys rest)
  unfolding insert_by
  insert_same_by x y (inl l) ys rest h = IsPermutation-refl (x ∷ y ∷ ys)
  insert_same_by x y (inr l) ys rest h = IsPermutation-trans (x ∷ y ∷ ys) (y ∷ x ∷ ys) (y ∷ rest) (swapped x y ys) (IsPermutation-cons y (x ∷ ys) rest h)

  insert_same : (x : ℕ) (ys : List ℕ) → IsPermutation (x ∷ ys) (insert x ys)
  unfolding insert
  insert_same x [] = IsPermutation-refl (x ∷ [])
  insert_same x (y ∷ ys) = insert_same_by x y (by_total f key x y) ys (insert x ys) (insert_same x ys)

  pub sorted_same : (xs : List ℕ) → IsPermutation xs (sorted xs)
  unfolding sorted
  sorted_same [] = IsPermutation-refl []
  sorted_same (x ∷ xs) = IsPermutation-trans (x ∷ xs) (x ∷ sorted xs) (insert x (sorted xs)) (IsPermutation-cons x xs (sorted xs) (sorted_same xs)) (insert_same x (sorted xs))

  -- x comes no later than each
  abbrev Before : ℕ → List ℕ → Type 0
  Before x ys = (k : ℕ) → k < length ys → By f key x (get_or ys k 0)

  abbrev Rising : List ℕ → Type 0
  Rising [] = Unit {0}
  Rising (x ∷ xs) = Before x xs × Rising xs

  before_all : (x : ℕ) (ys zs : List ℕ) → IsPermutation ys zs → Before x ys → Before x zs
  before_all x ys zs p h k l = All-permutation (By f key x) ys zs p (λ j d m. subst (By f key x) (get_or_default ys j 0 d m) (h j m)) k 0 l

  before_more : (x y : ℕ) (ys : List ℕ) → By f key x y → Before x ys → Before x (y ∷ ys)
  before_more x y ys l h zero m = l
  before_more x y ys l h (suc k) m = h k (omega arith)

  insert_rises_by : (x y : ℕ) (d : By f key x y ⊎ By f key y x) (ys rest : List ℕ) → Before y ys → Rising ys → Rising rest → IsPermutation (x ∷ ys) rest → Rising (insert_by x y d ys rest)
  unfolding insert_by
  insert_rises_by x y (inl l) ys rest b r s p = (before_more x y ys l (λ k m. by_trans f key x y (get_or ys k 0) l (b k m)), (b, r))
  insert_rises_by x y (inr l) ys rest b r s p = (before_all y (x ∷ ys) rest p (before_more y x ys l b), s)

  insert_rises : (x : ℕ) (ys : List ℕ) → Rising ys → Rising (insert x ys)
  unfolding insert
  insert_rises x [] r = ((λ k l. absurd (omega arith)), tt)
  insert_rises x (y ∷ ys) r = insert_rises_by x y (by_total f key x y) ys (insert x ys) r.0 r.1 (insert_rises x ys r.1) (insert_same x ys)

  sorted_rises : (xs : List ℕ) → Rising (sorted xs)
  unfolding sorted
  sorted_rises [] = tt
  sorted_rises (x ∷ xs) = insert_rises x (sorted xs) (sorted_rises xs)

  by_index : (xs : List ℕ) → Rising xs → (i j : ℕ) → i < j → j < length xs → By f key (get_or xs i 0) (get_or xs j 0)
  by_index [] r i j l m = absurd (omega arith)
  by_index (x ∷ xs) r i zero l m = absurd (omega arith)
  by_index (x ∷ xs) r zero (suc j) l m = r.0 j (omega arith)
  by_index (x ∷ xs) r (suc i) (suc j) l m = by_index xs r.1 i j (omega arith) (omega arith)

  pub sorted_by : (xs : List ℕ) (i j : ℕ) → i < j → j < length (sorted xs) → By f key (get_or (sorted xs) i 0) (get_or (sorted xs) j 0)
  sorted_by xs = by_index (sorted xs) (sorted_rises xs)
