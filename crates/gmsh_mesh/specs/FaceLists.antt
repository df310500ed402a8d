-- Faces: sides of two cells, and sides of one.
use Rattle.std.specs.Prelude.{◌≡◌, ◌<◌, ℕ, List, length, slice_index}

-- the numbers below n of which this is so, rising
pub record IsSelection (P : ℕ → Type 0) (n : ℕ) (list : List ℕ) : Type 0 where
  pub rises : (a b : ℕ) → a < b → b < length list → slice_index list a < slice_index list b
  pub each : (k : ℕ) → k < length list → (slice_index list k < n) × P (slice_index list k)
  pub all : (i : ℕ) → i < n → P i → (k : ℕ) × (k < length list) × (slice_index list k ≡ i)

-- the side stands before the other side of its face
abbrev pub IsInner : List ℕ → ℕ → Type 0
IsInner mates side = side < slice_index mates side

-- no other side is of its face
abbrev pub IsOuter : List ℕ → ℕ → Type 0
IsOuter mates side = side ≡ slice_index mates side

-- of the first n sides those that are the first of two sides of a face, and those that are alone
pub record AreFaces (mates : List ℕ) (n : ℕ) (firsts alone : List ℕ) : Type 0 where
  pub inner : IsSelection (IsInner mates) n firsts
  pub outer : IsSelection (IsOuter mates) n alone
