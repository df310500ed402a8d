-- A cut behind a first line.
use Rattle.std.specs.Prelude.{◌≡◌, ℕ, ◌+◌, List, [], ◌∷◌, ◌++◌, drop, length}
use Rattle.mesh_draw.specs.Lines.{lines_in}
use Rattle.mesh_draw.specs.declared.output_pieces.refusals.PieceRefusal.{PieceRefusal}
use Rattle.mesh_draw.specs.declared.output_pieces.refusals.PieceRefusal.TheVariants.{NoPrint, NoHeader, FewRows, OutOfMemory}

-- the last byte of these lines is an LF
abbrev pub IsClosed : List ℕ → Type 0
IsClosed header = (text : List ℕ) × (header ≡ text ++ 10 ∷ [])

-- the output has these bytes behind so many LFs, and what is behind them begins at this place
pub record IsBehind (before : ℕ) (header output : List ℕ) (end : ℕ) : Type 0 where
  pub front : List ℕ
  pub cut : output ≡ front ++ header ++ drop end output
  pub lines : lines_in front ≡ before
  pub place : end ≡ length front + length header

-- the output has these lines nowhere behind so many LFs, and their end is awaited on that line
pub record IsNowhere (before : ℕ) (header output : List ℕ) (line : ℕ) : Type 0 where
  pub none : (front rest : List ℕ) → output ≡ front ++ header ++ rest → lines_in front ≡ before → ⊥
  pub awaited : line ≡ before + lines_in header

-- why the output isn't cut: it has these lines nowhere behind so many LFs; or memory ran out
abbrev pub IsUncut : (before : ℕ) (header output : List ℕ) → PieceRefusal → Type 0
IsUncut before header output (NoHeader line) = IsNowhere before header output line
IsUncut before header output NoPrint = ⊥
IsUncut before header output (FewRows line) = ⊥
IsUncut before header output OutOfMemory = Unit {0}
