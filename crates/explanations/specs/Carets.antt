-- Lines of a source, and carets under them.
use Rattle.std.specs.Prelude.{ℕ, ◌-◌, Bool, not, ◌&&◌, nat_lt, nat_eq, List, [], ◌∷◌, ◌++◌, Option, None, take, slice_get, codes, if◌then◌else◌}
use Rattle.std.specs.List.{flat_map}
use Rattle.explanations.specs.Cuts.{parts}

-- the line of this number, from 1, if there is one: lines are what stands before, between and behind LFs
abbrev pub line_at : List ℕ → (number : ℕ) → Option (List ℕ)
line_at text number = if nat_eq number 0 then None else slice_get (parts 10 text) (number - 1)

-- a byte that goes on with a character of UTF-8 (RFC 3629, section 3): 10xxxxxx
abbrev pub goes_on : ℕ → Bool
goes_on b = not (nat_lt b 128) && nat_lt b 192

-- what stands under a byte: a tab under a tab, nothing under one that goes on with a character, and a blank under each other
abbrev pub under : ℕ → List ℕ
under b = if nat_eq b 9 then 9 ∷ [] else if goes_on b then [] else 32 ∷ []

-- a line, and a caret under its byte in this column, from 1; behind the line's end where it has no such byte
abbrev pub marked : (line : List ℕ) (column : ℕ) → List ℕ
marked line column = line ++ codes "\n" ++ flat_map under (take (column - 1) line) ++ codes "^\n"
