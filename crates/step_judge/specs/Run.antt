-- The places of one rank in one item: which have begun and ended.
use Rattle.std.specs.Prelude.{◌≡◌, ◌<◌, ◌/◌, ◌%◌, ◌==◌, ◌&&◌, ◌||◌, nat_lt, ℕ, Bool, true, false, List, get_or, length}
use Rattle.step_judge.specs.Marks.{Marks, no_marks}

-- a rank's places in one item: which have begun, and by block, and over the blocks, which have ended
pub record Run : Type 0 where
  pub size : ℕ  -- places of a block
  pub begun : List Bool  -- place
  pub blocks : List Marks  -- block: its places with their inner colours
  pub colours : Marks  -- the blocks with their colours
  pub core : List Bool  -- place

-- the places of a block
abbrev pub block_at : Run → ℕ → Marks
block_at v b = get_or v.blocks b no_marks

-- the stage of a place's block among the blocks
abbrev pub colour : Run → ℕ → ℕ
colour v p = get_or v.colours.of (p / v.size) 0

-- the stage of a place within its block
abbrev pub inner : Run → ℕ → ℕ
inner v p = get_or (block_at v (p / v.size)).of (p % v.size) 0

-- whether the place has begun
abbrev pub begun_at : Run → ℕ → Bool
begun_at v p = get_or v.begun p false

-- whether the place has ended
abbrev pub ended_at : Run → ℕ → Bool
ended_at v p = get_or (block_at v (p / v.size)).done (p % v.size) false

-- the first place has to end before the second begins
abbrev pub lower : Run → ℕ → ℕ → Bool
lower v q p = nat_lt (colour v q) (colour v p) || ((q / v.size == p / v.size) && nat_lt (inner v q) (inner v p))

-- each place that has to end before this one has ended
abbrev pub MayBegin : Run → ℕ → Type 0
MayBegin v p = (q : ℕ) → q < length v.begun → lower v q p ≡ true → ended_at v q ≡ true

-- the same places and colours
pub record SamePlaces (v w : Run) : Type 0 where
  pub size : w.size ≡ v.size
  pub number : length w.begun ≡ length v.begun
  pub lower : (q p : ℕ) → lower w q p ≡ lower v q p
  pub core : w.core ≡ v.core

-- each place has begun and ended
abbrev pub AllEnded : Run → Type 0
AllEnded v = (p : ℕ) → p < length v.begun → (begun_at v p ≡ true) × (ended_at v p ≡ true)

-- whether the place needs no import
abbrev pub core_at : Run → ℕ → Bool
core_at v p = get_or v.core p false
