-- Lines of an output: bytes up to an LF, with it.
use Rattle.std.specs.Prelude.{◌≡◌, ℕ, ◌⊎◌, List, [], ◌∷◌, ◌++◌}
use Rattle.std.specs.List.{count_by}
use Rattle.op_num.specs.CutLines.{is_lf}

-- how many LFs there are
abbrev pub lines_in : List ℕ → ℕ
lines_in bytes = count_by is_lf bytes

-- nothing stands behind the last LF
abbrev pub EndsInLf : List ℕ → Type 0
EndsInLf bytes = (bytes ≡ []) ⊎ ((front : List ℕ) × (bytes ≡ front ++ 10 ∷ []))

-- so many lines
pub record AreLines (n : ℕ) (bytes : List ℕ) : Type 0 where
  pub count : lines_in bytes ≡ n
  pub ends : EndsInLf bytes
