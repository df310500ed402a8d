-- Tests, counts and lists over the numbers below a bound.
use Rattle.std.specs.Prelude.{◌≡◌, ◌<◌, ℕ, zero, suc, ◌+◌, Bool, true, false, ◌||◌, cond, List, [], ◌∷◌, ◌++◌, Vec, length, map, slice_index, slice_index_or}
use Rattle.std.specs.declared.alloc.Global.{Global}

-- some number below n passes
abbrev pub any_below : ℕ → (ℕ → Bool) → Bool
any_below zero p = false
any_below (suc n) p = any_below n p || p n

-- how many numbers below n pass
abbrev pub count_below : ℕ → (ℕ → Bool) → ℕ
count_below zero p = 0
count_below (suc n) p = count_below n p + cond (p n) 1 0

-- the numbers below n that pass, in increasing order
abbrev pub listed : ℕ → (ℕ → Bool) → List ℕ
listed zero p = []
listed (suc n) p = listed n p ++ cond (p n) (n ∷ []) []

-- the list at place k of a list of lists
unfoldable pub row : List (Vec ℕ Global) → ℕ → List ℕ
row lists k = slice_index_or (map (λ (v : Vec ℕ Global). v.items) lists) k []

-- the lists at place a of a list of lists of lists
unfoldable pub rows : List (Vec (Vec ℕ Global) Global) → ℕ → List (Vec ℕ Global)
rows lists a = slice_index_or (map (λ (v : Vec (Vec ℕ Global) Global). v.items) lists) a []

-- the list has the numbers below n that pass, each once
pub record HasNumbers (n : ℕ) (p : ℕ → Bool) : Type 0 where
  pub has : (x : ℕ) → x < n → p x ≡ true → (k : ℕ) × (k < length (listed n p)) × (slice_index (listed n p) k ≡ x)
  pub passes : (k : ℕ) → k < length (listed n p) → (slice_index (listed n p) k < n) × (p (slice_index (listed n p) k) ≡ true)
  pub once : (i j : ℕ)
      → i < length (listed n p)
      → j < length (listed n p)
      → slice_index (listed n p) i ≡ slice_index (listed n p) j
      → i ≡ j
