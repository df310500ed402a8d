-- The table of the constants' cells, one variable after another.
use Rattle.std.specs.Prelude.{◌≡◌, ◌<◌, ◌≤◌, ◌+◌, ◌⊎◌, ℕ, List, slice_index, Option, Some, None}

-- first constant, count, where the variable begins: the places of its constants have its cells, and all others stay
abbrev pub NumberedFrom : Option ℕ → (count start : ℕ) → (old new : List ℕ) → Type 0
NumberedFrom None count start old new = new ≡ old
NumberedFrom (Some first) count start old new =
    ((i : ℕ) → i < count → slice_index new (first + i) ≡ start + i)
    × ((j : ℕ) → (j < first) ⊎ (first + count ≤ j) → slice_index new j ≡ slice_index old j)
