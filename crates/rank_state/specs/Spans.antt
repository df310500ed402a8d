-- Cells copied between a memory and a frame.
use Rattle.std.specs.Prelude.{ℕ, ℤ, ◌+◌, ◌≤◌, List, [], ◌∷◌, ◌++◌, take, drop, length, cond}
use Rattle.rank_state.specs.declared.spans.Span.{Span}

-- each span lies within so many cells
abbrev pub Within : ℕ → List Span → Type 0
Within n [] = Unit {0}
Within n (s ∷ ss) = (s.at + s.dim ≤ n) × Within n ss

-- how many cells the spans have
abbrev pub total : List Span → ℕ
total [] = 0
total (s ∷ ss) = s.dim + total ss

-- the cells with a window of them replaced, from a place on
abbrev pub with_window : ℕ → List ℤ → List ℤ → List ℤ
with_window at w m = take at m ++ (w ++ drop (at + length w) m)

-- so many cells of a memory, from a place on
abbrev pub cells_at : ℕ → ℕ → List ℤ → List ℤ
cells_at at dim m = take dim (drop at m)

-- the spans' cells of a memory, one span after another
abbrev pub gathered : List ℤ → List Span → List ℤ
gathered m [] = []
gathered m (s ∷ ss) = cells_at s.at s.dim m ++ gathered m ss

-- the cells of spans, put into a frame from a place on
abbrev pub filled : ℕ → List ℤ → List Span → List ℤ → List ℤ
filled from m [] f = f
filled from m (s ∷ ss) f = filled (from + s.dim) m ss (with_window from (cells_at s.at s.dim m) f)

-- the written spans of a memory replaced by a frame's cells, which stand there from a place on
abbrev pub scattered : ℕ → List ℤ → List Span → List ℤ → List ℤ
scattered from f [] m = m
scattered from f (s ∷ ss) m = scattered (from + s.dim) f ss (cond s.writes (with_window s.at (cells_at from s.dim f) m) m)
