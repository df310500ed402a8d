-- Pairs of numbers that rise.
use Rattle.std.specs.Prelude.{◌≡◌, ◌<◌, ◌⊎◌, ℕ, List, length, slice_index}

-- a pair stands before another: by its first number, and where these are equal by its second
abbrev pub Before : ℕ → ℕ → ℕ → ℕ → Type 0
Before a b c d = (a < c) ⊎ ((a ≡ c) × (b < d))

-- of the first pairs, so many, each stands before the later ones
abbrev pub RisingUpTo : ℕ → List ℕ → List ℕ → Type 0
RisingUpTo n fs ts = (i j : ℕ) → i < j → j < n → Before (slice_index fs i) (slice_index ts i) (slice_index fs j) (slice_index ts j)

-- each pair stands before the later ones
abbrev pub Rising : List ℕ → List ℕ → Type 0
Rising fs ts = RisingUpTo (length fs) fs ts
