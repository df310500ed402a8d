-- Text that is written line by line.
use Rattle.std.specs.Prelude.{◌≡◌, ℕ, ◌+◌, ◌<◌, true, List, [], ◌∷◌, ◌++◌, map, length}
use Rattle.std.specs.List.{list_all, flat_map}
use Rattle.op_num.specs.Cut.{Word, dark}

-- one or more bytes, none of them blank
abbrev pub IsToken : List ℕ → Type 0
IsToken t = (0 < length t) × (list_all dark t ≡ true)

-- what stands behind a token: LF behind the last of a line, else a space
abbrev pub separator : List (List ℕ) → ℕ
separator [] = 10
separator (t ∷ ts) = 32

-- a line of tokens between single spaces; without tokens there is no line
abbrev pub line_of : List (List ℕ) → List ℕ
line_of [] = []
line_of (t ∷ ts) = t ++ separator ts ∷ line_of ts

-- the bytes of lines of tokens
abbrev pub text_of_lines : List (List (List ℕ)) → List ℕ
text_of_lines lines = flat_map line_of lines

-- each of them is a token
abbrev pub AreTokens : List (List ℕ) → Type 0
AreTokens [] = Unit {0}
AreTokens (t ∷ ts) = IsToken t × AreTokens ts

-- lines of tokens
abbrev pub AreLines : List (List (List ℕ)) → Type 0
AreLines [] = Unit {0}
AreLines (l ∷ ls) = AreTokens l × AreLines ls

-- a token that stands on this line
abbrev pub on_line : ℕ → List ℕ → Word
on_line line t = record { text = t; line = line }

-- the tokens of lines of which the first has this number
abbrev pub placed : ℕ → List (List (List ℕ)) → List Word
placed line [] = []
placed line ([] ∷ ls) = placed line ls
placed line ((t ∷ ts) ∷ ls) = map (on_line line) (t ∷ ts) ++ placed (line + 1) ls
