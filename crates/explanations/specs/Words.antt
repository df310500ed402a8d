-- What the words of a line say.
use Rattle.std.specs.Prelude.{ℕ, ◌-◌, ◌^◌, Bool, nat_eq, nat_lt, ◌||◌, List, [], ◌∷◌, length, take, Option, Some, None, codes, option_and_then, option_map, slice_get, if◌then◌else◌}
use Rattle.std.specs.List.{starts_with, ends_with}
use Rattle.std.specs.Str.{bytes_eq}
use Rattle.op_num.specs.Spelling.{number_of}
use Rattle.explanations.specs.Cuts.{parts}
use Rattle.explanations.specs.declared.places.Place.{Place}

-- a line without the LF at its end, if it has one
abbrev pub without_lf : List ℕ → List ℕ
without_lf line = if ends_with nat_eq line (10 ∷ []) then take (length line - 1) line else line

-- the words of a line: what stands before, between and behind its spaces
abbrev pub line_words : List ℕ → List (List ℕ)
line_words line = parts 32 (without_lf line)

-- the word behind the first `at`, if there is one
abbrev pub behind_at : List (List ℕ) → Option (List ℕ)
behind_at [] = None
behind_at (w ∷ ws) = if bytes_eq w (codes "at") then slice_get ws 0 else behind_at ws

-- a number below 2 ^ 64, in decimal digits
abbrev pub number_in : List ℕ → Option ℕ
number_in word = option_and_then (λ n. if nat_lt n (2 ^ 64) then Some n else None) (number_of word)

-- that, where there is a word
abbrev pub number_at : (words : List (List ℕ)) (place : ℕ) → Option ℕ
number_at words place = option_and_then number_in (slice_get words place)

-- the place that a word is, `L:C`
abbrev pub place_of : List ℕ → Option Place
place_of word =
    option_and_then (λ line. option_map (λ column. record { line = line; column = column }) (number_at (parts 58 word) 1))
    (number_at (parts 58 word) 0)

-- the place that a line tells, behind its first `at`
abbrev pub place_in : List ℕ → Option Place
place_in line = option_and_then place_of (behind_at (line_words line))

-- the lines that tell a place in the source: those of refused sources, of faults and of stubs
abbrev pub tells_place : List ℕ → Bool
tells_place line =
    starts_with nat_eq line (codes "op2: source ") || starts_with nat_eq line (codes "op2: fault ")
    || starts_with nat_eq line (codes "op2: translate ")

-- the lines of limits
abbrev pub tells_limit : List ℕ → Bool
tells_limit line = starts_with nat_eq line (codes "op2: limit ")
