-- Variables that share no constant, and have as many cells of constants as there are, leave none out.
use Rattle.std.proofs.Common.{◌≡◌, ◌<◌, ◌≤◌, ◌≢◌, ◌+◌, ℕ, zero, suc, ℤ, Bool, true, false, List, [], ◌∷◌, length, get_or, sum_by, Option, Some, None, refl, sym, ap, ap₂, ◌∙◌, ◌⊎◌, inl, inr, ⊎_elim, arith}
use Rattle.std.specs.Prelude.{not, ◌&&◌, nat_lt}
use Rattle.std.proofs.lemmas.Bool.{cases_Bool, cases_lt, false≢true, lt-ltb, le-ltb, and_parts, ltb-true}
use Rattle.std.proofs.lemmas.List.Sums.{sum_by-cons}
use Rattle.bound_program.specs.Values.{VarValue, no_var}
use Rattle.bound_program.specs.Fits.{constant_cells}
use Rattle.run_model.specs.Kernels.{is_among}

-- ---- sums over the numbers below n

abbrev pub total : (ℕ → ℕ) → ℕ → ℕ
total f zero = 0
total f (suc n) = total f n + f n

total_plus : (f g : ℕ → ℕ) (n : ℕ) → total (λ j. f j + g j) n ≡ total f n + total g n
total_plus f g zero = refl
total_plus f g (suc n) = omega (arith, total_plus f g n)

total_zero : (n : ℕ) → total (λ j. 0) n ≡ 0
total_zero zero = refl
total_zero (suc n) = omega (arith, total_zero n)

total_most : (f : ℕ → ℕ) (n : ℕ) → ((j : ℕ) → f j ≤ 1) → total f n ≤ n
total_most f zero small = omega arith
total_most f (suc n) small = omega (arith, total_most f n small, small n)

total_less : (f : ℕ → ℕ) (n k : ℕ) → ((j : ℕ) → f j ≤ 1) → k < n → f k ≡ 0 → total f n < n
total_less f zero k small lt none = absurd (omega arith)
total_less f (suc n) k small lt none = ⊎_elim
    (λ (l : k < n). omega (arith, total_less f n k small l none, small n))
    (λ (l : n ≤ k). let same : n ≡ k = omega arith in let last : f n ≡ 0 = ap f same ∙ none in omega (arith, total_most f n small, last))
    (cases_lt k n)

-- ---- the numbers of one variable

abbrev one : Bool → ℕ
one true = 1
one false = 0

pub among_true : (first n j : ℕ) → first ≤ j → j < first + n → is_among first n j ≡ true
among_true first n j le lt = ap₂ (λ x y. not x && y) (le-ltb j first le) (lt-ltb j (first + n) lt)

among_before : (first n j : ℕ) → j < first → is_among first n j ≡ false
among_before first n j lt = ap (λ x. not x && nat_lt j (first + n)) (lt-ltb j first lt)

among_after : (first n j : ℕ) → first + n ≤ j → is_among first n j ≡ false
among_after first n j le = ap₂ (λ x y. not x && y) (le-ltb j first (omega arith)) (le-ltb j (first + n) le)

pub among_bounds : (first n j : ℕ) → is_among first n j ≡ true → (first ≤ j) × (j < first + n)
among_bounds first n j h = ⊎_elim
    (λ (l : j < first). absurd (false≢true (sym (among_before first n j l) ∙ h)))
    (λ (l : first ≤ j). (l, ltb-true j (first + n) (and_parts (not (nat_lt j first)) (nat_lt j (first + n)) h).1))
    (cases_lt j first)

-- how many numbers below n are among them
record Counted (first n m t : ℕ) : Type 0 where
  pub before : m ≤ first → t ≡ 0
  pub during : first ≤ m → m ≤ first + n → t + first ≡ m
  pub after : first + n ≤ m → t ≡ n

one_more : (first n m t : ℕ) → Counted first n m t → Counted first n (suc m) (t + one (is_among first n m))
one_more first n m t past = ⊎_elim
    (λ (l : m < first).
    let here : one (is_among first n m) ≡ 0 = ap one (among_before first n m l) in
    let none : t ≡ 0 = past.before (omega arith) in
    record { before = λ k. omega arith; during = λ k h. omega arith; after = λ k. omega arith })
    (λ (l : first ≤ m). ⊎_elim
    (λ (h : m < first + n).
    let here : one (is_among first n m) ≡ 1 = ap one (among_true first n m l h) in
    let some : t + first ≡ m = past.during l (omega arith) in
    record { before = λ k. absurd (omega arith); during = λ k g. omega arith; after = λ k. omega arith })
    (λ (h : first + n ≤ m).
    let here : one (is_among first n m) ≡ 0 = ap one (among_after first n m h) in
    let all : t ≡ n = past.after h in
    record { before = λ k. absurd (omega arith); during = λ k g. absurd (omega arith); after = λ k. omega arith })
    (cases_lt m (first + n)))
    (cases_lt m first)

total_among : (first n m : ℕ) → Counted first n m (total (λ j. one (is_among first n j)) m)
total_among first n zero = record { before = λ l. refl; during = λ l k. omega arith; after = λ l. omega arith }
total_among first n (suc m) = one_more first n m (total (λ j. one (is_among first n j)) m) (total_among first n m)

-- ---- the numbers of all variables

-- constant j is one of the variable's
abbrev pub covers_by : Option ℕ → ℕ → ℕ → Bool
covers_by None n j = false
covers_by (Some first) n j = is_among first n j

abbrev pub covers : VarValue → ℕ → Bool
covers x j = covers_by x.constant (length x.start) j

total_covers : (m : ℕ) (name : List ℕ) (start : List ℤ) (c : Option ℕ) (i : Bool) → ((first : ℕ) → c ≡ Some first → first + length start ≤ m)
    → total (λ j. one (covers_by c (length start) j)) m ≡ constant_cells (record { name = name; start = start; constant = c; is_const = i })
total_covers m name start None i within = total_zero m
total_covers m name start (Some first) i within = (total_among first (length start) m).after (within first refl)

-- how many of the variables have it
abbrev hits : List VarValue → ℕ → ℕ
hits [] j = 0
hits (x ∷ xs) j = one (covers x j) + hits xs j

module _ (m : ℕ) where
  total_hits : (xs : List VarValue) → ((w first : ℕ) → w < length xs → (get_or xs w no_var).constant ≡ Some first → first + length (get_or xs w no_var).start ≤ m)
      → total (hits xs) m ≡ sum_by constant_cells xs
  total_hits [] within = total_zero m
  total_hits (x ∷ xs) within =
      total_plus (λ j. one (covers x j)) (hits xs) m
      ∙ ap₂ (λ p q. p + q)
      (total_covers m x.name x.start x.constant x.is_const (λ first e. within 0 first (omega arith) e))
      (total_hits xs (λ w first lt e. within (suc w) first (omega arith) e))
      ∙ sym (sum_by-cons constant_cells x xs)

no_hits : (xs : List VarValue) (j : ℕ) → ((w : ℕ) → w < length xs → covers (get_or xs w no_var) j ≡ true → ⊥) → hits xs j ≡ 0
no_hits [] j none = refl
no_hits (x ∷ xs) j none = ⊎_elim
    (λ (t : covers x j ≡ true). absurd (none 0 (omega arith) t))
    (λ (t : covers x j ≡ false). let z : one (covers x j) ≡ 0 = ap one t in omega (arith, no_hits xs j (λ w lt. none (suc w) (omega arith))))
    (cases_Bool (covers x j))

few_hits : (xs : List VarValue) (j : ℕ)
    → ((v w : ℕ) → v < length xs → w < length xs → v ≢ w → covers (get_or xs v no_var) j ≡ true → covers (get_or xs w no_var) j ≡ true → ⊥) → hits xs j ≤ 1
few_hits [] j apart = omega arith
few_hits (x ∷ xs) j apart = ⊎_elim
    (λ (t : covers x j ≡ true).
    let z : one (covers x j) ≡ 1 = ap one t in
    let rest : hits xs j ≡ 0 = no_hits xs j (λ w lt h. apart 0 (suc w) (omega arith) (omega arith) (λ e. omega arith) t h) in
    omega arith)
    (λ (t : covers x j ≡ false).
    let z : one (covers x j) ≡ 0 = ap one t in
    let rest : hits xs j ≤ 1 = few_hits xs j (λ v w lv lw ne. apart (suc v) (suc w) (omega arith) (omega arith) (λ e. ne (omega arith))) in
    omega arith)
    (cases_Bool (covers x j))

-- some variable has it
abbrev pub IsCovered : List VarValue → ℕ → Type 0
IsCovered xs j = (w : ℕ) × (w < length xs) × (covers (get_or xs w no_var) j ≡ true)

search : (xs : List VarValue) (j : ℕ) → IsCovered xs j ⊎ (hits xs j ≡ 0)
search [] j = inr refl
search (x ∷ xs) j = ⊎_elim
    (λ (t : covers x j ≡ true). inl (0, (let lt : 0 < suc (length xs) = omega arith in lt), t))
    (λ (t : covers x j ≡ false). ⊎_elim
    (λ h. inl (suc h.0, (let lt : suc h.0 < suc (length xs) = omega (arith, h.1) in lt), h.2))
    (λ (h : hits xs j ≡ 0). let z : one (covers x j) ≡ 0 = ap one t in inr (let all : one (covers x j) + hits xs j ≡ 0 = omega arith in all))
    (search xs j))
    (cases_Bool (covers x j))

pub all_covered : (xs : List VarValue) (m j : ℕ)
    → sum_by constant_cells xs ≡ m
    → ((w first : ℕ) → w < length xs → (get_or xs w no_var).constant ≡ Some first → first + length (get_or xs w no_var).start ≤ m)
    → ((k v w : ℕ) → v < length xs → w < length xs → v ≢ w → covers (get_or xs v no_var) k ≡ true → covers (get_or xs w no_var) k ≡ true → ⊥)
    → j < m → IsCovered xs j
all_covered xs m j long within apart lt = ⊎_elim
    (λ h. h)
    (λ (h : hits xs j ≡ 0). absurd (let less : total (hits xs) m < m = total_less (hits xs) m j (λ k. few_hits xs k (apart k)) lt h in omega (arith, total_hits m xs within)))
    (search xs j)
