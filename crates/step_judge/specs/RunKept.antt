-- What holds of a rank's places in one item, whichever have begun and ended.
use Rattle.std.specs.Prelude.{◌≡◌, ◌<◌, ◌≤◌, ◌+◌, ◌*◌, ◌/◌, ◌%◌, ◌^◌, ◌↔◌, ℕ, true, false, get_or, length}
use Rattle.step_judge.specs.Marks.{AllDone}
use Rattle.step_judge.specs.Run.{Run, block_at, begun_at, ended_at}

-- blocks hold the places one after another, few enough to count, and what has ended has begun
pub record Whole (v : Run) : Type 0 where
  pub sized : 1 ≤ v.size
  pub fits : length v.begun < 2 ^ 32
  pub colours_of : length v.colours.of ≡ length v.blocks
  pub colours_done : length v.colours.done ≡ length v.blocks
  pub block_done : (b : ℕ) → b < length v.blocks → length (block_at v b).done ≡ length (block_at v b).of
  -- each place is in a block
  pub block_in : (p : ℕ) → p < length v.begun → p / v.size < length v.blocks
  pub place_in : (p : ℕ) → p < length v.begun → p % v.size < length (block_at v (p / v.size)).of
  -- each task of a block is a place
  pub short : (b t : ℕ) → b < length v.blocks → t < length (block_at v b).of → t < v.size
  pub in_place : (b t : ℕ) → b < length v.blocks → t < length (block_at v b).of → b * v.size + t < length v.begun
  -- a block is done where its places have ended
  pub closed : (b : ℕ) → b < length v.blocks → (get_or v.colours.done b false ≡ true) ↔ AllDone (block_at v b)
  pub core_each : length v.core ≡ length v.begun
  pub begins_first : (p : ℕ) → p < length v.begun → ended_at v p ≡ true → begun_at v p ≡ true
