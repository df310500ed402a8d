-- Lines of numbers.
use Rattle.std.specs.Prelude.{◌≡◌, ℕ, ℤ, List, [], ◌∷◌, ◌++◌, All, length, Ok}
use Rattle.std.specs.List.{flat_map}
use Rattle.op_num.specs.Spelling.{integer_of, i32_judged}
use Rattle.op_num.specs.CutLines.{HasNoLf, words}

-- the word spells an integer of 32 bits
abbrev pub IsNumber : List ℕ → Type 0
IsNumber word = (z : ℤ) × (i32_judged (integer_of word) ≡ Ok z)

-- the line, which stands without its LF, has so many of them between single spaces
pub record HasNumbers (n : ℕ) (line : List ℕ) : Type 0 where
  pub count : length (words line) ≡ n
  pub numbers : All IsNumber (words line)

-- lines, each with its LF
abbrev pub lines_text : List (List ℕ) → List ℕ
lines_text lines = flat_map (λ (line : List ℕ). line ++ 10 ∷ []) lines

-- each line of the text has so many numbers
pub record AreNumberLines (n : ℕ) (text : List ℕ) : Type 0 where
  pub lines : List (List ℕ)
  pub whole : text ≡ lines_text lines
  pub each : All (HasNumbers n) lines

-- Behind so many lines of so many numbers the text goes on with none.
pub record IsOther (n : ℕ) (text : List ℕ) (before : ℕ) : Type 0 where
  pub lines : List (List ℕ)
  pub rest : List ℕ
  pub whole : text ≡ lines_text lines ++ rest
  pub each : All (HasNumbers n) lines
  pub count : length lines ≡ before
  pub goes_on : rest ≡ [] → ⊥
  pub none : (line more : List ℕ) → HasNoLf line → rest ≡ line ++ 10 ∷ more → HasNumbers n line → ⊥
