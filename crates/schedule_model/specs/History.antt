-- When a dat is exchanged: by the history of the items, and by one bit a dat.
use Rattle.std.specs.Prelude.{◌≡◌, ◌<◌, ℕ, zero, suc, Bool, true, false, ◌&&◌, ◌||◌, not}

module _ (modifies needs exchanged : ℕ → Bool) where
  -- an item before k modified the dat, and no item strictly between exchanged it
  abbrev pub IsStale : ℕ → Type 0
  IsStale k = (m : ℕ) × (m < k) × (modifies m ≡ true) × ((n : ℕ) → m < n → n < k → exchanged n ≡ false)

  -- an item exchanges the dat exactly where it needs it while copies are stale
  pub record ByHistory : Type 0 where
    pub needed : (k : ℕ) → exchanged k ≡ true → needs k ≡ true
    pub since : (k : ℕ) → exchanged k ≡ true → IsStale k
    pub must : (k : ℕ) → needs k ≡ true → IsStale k → exchanged k ≡ true

-- the bit of a dat before item k: set by an item that modifies it, else cleared by one that needs it
abbrev pub stale_bit : (ℕ → Bool) → (ℕ → Bool) → ℕ → Bool
stale_bit modifies needs zero = false
stale_bit modifies needs (suc k) = modifies k || (stale_bit modifies needs k && not (needs k))

-- an item that needs the dat while its bit is set exchanges it
abbrev pub exchanged_by_bit : (ℕ → Bool) → (ℕ → Bool) → ℕ → Bool
exchanged_by_bit modifies needs k = needs k && stale_bit modifies needs k
