-- Blocks of consecutive places.
use Rattle.std.specs.Prelude.{ℕ, ◌+◌, ◌*◌, ◌<◌, ◌≤◌, min}

-- the place lies in the block of this number
abbrev pub IsInBlock : ℕ → ℕ → ℕ → ℕ → Type 0
IsInBlock places size block place = (block * size ≤ place) × (place < (block + 1) * size) × (place < places)

-- the first place of a block
abbrev pub block_start : ℕ → ℕ → ℕ
block_start size block = block * size

-- the place past the last of a block
abbrev pub block_end : ℕ → ℕ → ℕ → ℕ
block_end places size block = min (block * size + size) places
