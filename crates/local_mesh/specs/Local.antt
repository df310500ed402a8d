-- Local numbers as counts of elements with a smaller new number.
use Rattle.std.specs.Prelude.{◌≡◌, ℕ, zero, suc, ◌+◌, ◌<◌, Bool, true, false, ◌||◌, cond, List, [], ◌∷◌, ◌++◌, length, slice_index}
use Rattle.lemmas.specs.Below.{count_below}

-- the elements among order 0, order 1, .. below n that pass, in this order
abbrev pub ordered : ℕ → (ℕ → ℕ) → (ℕ → Bool) → List ℕ
ordered zero order p = []
ordered (suc n) order p = ordered n order p ++ cond (p (order n)) (order n ∷ []) []

-- how many elements with a new number below j are of a group
abbrev pub earlier : (ℕ → ℕ) → (ℕ → Bool) → ℕ → ℕ
earlier order p j = count_below j (λ i. p (order i))

-- the local number of the element with new number j: owned first, then import execute, then import non-execute
unfoldable pub local_number : ℕ → (ℕ → ℕ) → (ℕ → Bool) → (ℕ → Bool) → (ℕ → Bool) → ℕ → ℕ
local_number n order own exec nonexec j =
    cond (own (order j)) (earlier order own j)
    (cond (exec (order j)) (earlier order own n + earlier order exec j)
    (earlier order own n + earlier order exec n + earlier order nonexec j))

-- no element is of two groups
pub record AreApart (own exec nonexec : ℕ → Bool) : Type 0 where
  pub own_exec : (x : ℕ) → own x ≡ true → exec x ≡ false
  pub own_nonexec : (x : ℕ) → own x ≡ true → nonexec x ≡ false
  pub exec_nonexec : (x : ℕ) → exec x ≡ true → nonexec x ≡ false

-- The list of originals and the local numbers are inverse on the elements of the three groups.
pub record AreInverse (n : ℕ) (order : ℕ → ℕ) (own exec nonexec : ℕ → Bool) (original : List ℕ) : Type 0 where
  pub count : length original ≡ earlier order own n + earlier order exec n + earlier order nonexec n
  pub within : (j : ℕ) → j < n → (own (order j) || (exec (order j) || nonexec (order j))) ≡ true
      → local_number n order own exec nonexec j < length original
  pub at_number : (j : ℕ) → j < n → (own (order j) || (exec (order j) || nonexec (order j))) ≡ true
      → slice_index original (local_number n order own exec nonexec j) ≡ order j
  pub numbered : (k : ℕ) → k < length original → (j : ℕ) × (j < n) × ((own (order j) || (exec (order j) || nonexec (order j))) ≡ true)
      × (slice_index original k ≡ order j) × (local_number n order own exec nonexec j ≡ k)
