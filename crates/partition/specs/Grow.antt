-- Owners by growth over neighbours: elements are given out one after another, each rank's at the places of its block.
use Rattle.std.specs.Prelude.{◌≡◌, ◌⊎◌, ℕ, ◌+◌, ◌<◌, ◌≤◌, Bool, true, false, List, length, take, drop, slice_index, slice_index_or, Contains}
use Rattle.renumber.specs.Taken.{earliest}
use Rattle.partition.specs.Block.{block_start, InBlock}

-- z is free, and of the free elements it has the least (place of its earliest neighbour among `mine`, number)
pub record IsNextFree (n : ℕ) (near : ℕ → ℕ → Bool) (gone mine : List ℕ) (z : ℕ) : Type 0 where
  pub within : z < n
  pub new : Contains gone z → ⊥
  pub least : (y : ℕ) → y < n → (Contains gone y → ⊥) → (earliest near mine z < earliest near mine y)
      ⊎ ((earliest near mine z ≡ earliest near mine y) × (z ≤ y))

-- at each place of rank i's block stands the next free element, by the elements that the rank has at earlier places
abbrev pub AreNextFree : ℕ → ℕ → (ℕ → ℕ → Bool) → List ℕ → Type 0
AreNextFree n ranks near order = (k i : ℕ) → k < length order → InBlock n ranks i k
    → IsNextFree n near (take k order) (drop (block_start n ranks i) (take k order)) (slice_index order k)

-- All elements stand in the order in which they were given, and rank i owns those at the places of its block.
pub record IsGrown (n ranks : ℕ) (near : ℕ → ℕ → Bool) (owner : ℕ → ℕ) : Type 0 where
  pub order : List ℕ
  pub all : length order ≡ n
  pub next : AreNextFree n ranks near order
  pub owners : (k i : ℕ) → k < n → InBlock n ranks i k → owner (slice_index order k) ≡ i

-- while rank i takes elements: of its elements before place h, unless it has its share, all neighbours are marked
pub record IsGrowing (n ranks : ℕ) (near : ℕ → ℕ → Bool) (i h : ℕ) (order : List ℕ) (seen : List Bool) : Type 0 where
  pub some : 0 < ranks
  pub begun : block_start n ranks i ≤ length order
  pub closed : length order < block_start n ranks (i + 1) → (j y : ℕ) → block_start n ranks i ≤ j → j < h → j < length order → y < n
      → near (slice_index order j) y ≡ true → slice_index_or seen y false ≡ true
  pub next : AreNextFree n ranks near order
