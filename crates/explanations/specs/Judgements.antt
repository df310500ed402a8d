-- A refused access, as a line of `op2` tells it: `op2: source access N at L:C`.
use Rattle.std.specs.Prelude.{ℕ, Bool, nat_eq, List, Option, None, codes, option_and_then, option_map, if◌then◌else◌}
use Rattle.std.specs.List.{starts_with}
use Rattle.explanations.specs.Words.{line_words, number_at, place_in}
use Rattle.explanations.specs.declared.error_loops.judgements.Judgement.{Judgement}

-- the lines of refused accesses
abbrev pub tells_access : List ℕ → Bool
tells_access line = starts_with nat_eq line (codes "op2: source access ")

-- the number and the place in such a line
abbrev pub judgement_of : List ℕ → Option Judgement
judgement_of line =
    option_and_then (λ n. option_map (λ at. record { number = n; at = at }) (place_in line)) (number_at (line_words line) 3)

-- the refused access that a line tells, if it tells one
abbrev pub judgement_in : List ℕ → Option Judgement
judgement_in line = if tells_access line then judgement_of line else None
