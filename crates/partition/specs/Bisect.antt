-- Owners by repeated halving along the axis with the largest spread.
use Rattle.std.specs.Prelude.{◌≡◌, ◌⊎◌, ℕ, ℤ, pos, zero, suc, ◌+◌, ◌-◌, ◌*◌, ◌/◌, ◌<◌, ◌≤◌, ◌+ℤ◌, List, ◌++◌, length, slice_index, slice_index_or, unsigned_abs, nat_eq}
use Rattle.std.specs.List.Sorted.{IsPermutation}
use Rattle.partition.specs.Block.{block_start, share}
use Rattle.lemmas.specs.Below.{count_below}

-- component a of element x of a dat of this dim
abbrev pub component : List ℤ → ℕ → ℕ → ℕ → ℤ
component values dim a x = slice_index_or values (x * dim + a) (pos 0)

-- how far that component lies above the least number of 32 bits: heights compare and differ as the components do
unfoldable pub height : List ℤ → ℕ → ℕ → ℕ → ℕ
height values dim a x = unsigned_abs (component values dim a x +ℤ pos 2147483648)

-- d is the difference of the greatest and the least value on axis a in the list
pub record IsSpread (values : List ℤ) (dim a : ℕ) (xs : List ℕ) (d : ℕ) : Type 0 where
  pub most : (i j : ℕ) → i < length xs → j < length xs → height values dim a (slice_index xs i) ≤ height values dim a (slice_index xs j) + d
  pub high : ℕ
  pub low : ℕ
  pub high_in : high < length xs
  pub low_in : low < length xs
  pub reached : height values dim a (slice_index xs high) ≡ height values dim a (slice_index xs low) + d

-- the axis with the largest spread, of several the lowest
pub record IsAxis (values : List ℤ) (dim : ℕ) (xs : List ℕ) (a : ℕ) : Type 0 where
  pub within : a < dim
  pub spread : ℕ
  pub is : IsSpread values dim a xs spread
  pub most : (b d : ℕ) → b < dim → IsSpread values dim b xs d → d ≤ spread
  pub first : (b d : ℕ) → b < a → IsSpread values dim b xs d → d < spread

-- the same elements by (value on axis a, number)
pub record IsAlong (values : List ℤ) (dim a : ℕ) (xs ys : List ℕ) : Type 0 where
  pub same : IsPermutation xs ys
  pub rises : (i j : ℕ) → i < j → j < length ys → (height values dim a (slice_index ys i) < height values dim a (slice_index ys j))
      ⊎ ((height values dim a (slice_index ys i) ≡ height values dim a (slice_index ys j)) × (slice_index ys i ≤ slice_index ys j))

-- along the axis with the largest spread, the first `many` elements and the others
pub record IsCut (values : List ℤ) (dim many : ℕ) (xs lower upper : List ℕ) : Type 0 where
  pub axis : ℕ
  pub longest : IsAxis values dim xs axis
  pub along : IsAlong values dim axis xs (lower ++ upper)
  pub count : length lower ≡ many

-- A list for the ranks from lo on, `many` of them, of n elements and `ranks` ranks: one rank has all; of an empty list nothing is said;
-- else the list is cut, and the first part goes to the lower half of the ranks. Each cut uses up one of `depth`.
abbrev pub IsHalved : ℕ → ℕ → ℕ → List ℤ → ℕ → (ℕ → ℕ) → ℕ → ℕ → List ℕ → Type 0
IsHalved zero n ranks values dim owner lo many xs = ⊥
IsHalved (suc depth) n ranks values dim owner lo many xs =
    ((many ≡ 1) × ((k : ℕ) → k < length xs → owner (slice_index xs k) ≡ lo))
    ⊎ ((length xs ≡ 0)
    ⊎ ((1 < many) × (lower : List ℕ) × (upper : List ℕ)
    × IsCut values dim (block_start n ranks (lo + many / 2) - block_start n ranks lo) xs lower upper
    × IsHalved depth n ranks values dim owner lo (many / 2) lower
    × IsHalved depth n ranks values dim owner (lo + many / 2) (many - many / 2) upper))

-- The elements of a set, of n elements, are halved among all ranks, and each rank has its share.
pub record IsBisected (n ranks : ℕ) (values : List ℤ) (dim : ℕ) (owners : List ℕ) : Type 0 where
  pub elements : List ℕ
  pub size : length elements ≡ n
  pub each : (x : ℕ) → x < n → slice_index elements x ≡ x
  pub halved : IsHalved ranks n ranks values dim (λ x. slice_index owners x) 0 ranks elements
  pub shares : (i : ℕ) → i < ranks → count_below n (λ x. nat_eq (slice_index owners x) i) ≡ share n ranks i
