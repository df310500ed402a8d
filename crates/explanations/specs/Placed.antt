-- Places of tokens in the source.
use Rattle.std.specs.Prelude.{ℕ, List, ◌++◌, Some, codes}
use Rattle.std.specs.Fmt.{decimal}
use Rattle.c_tree.specs.declared.lexer.tokens.Pos.{Pos}
use Rattle.explanations.specs.declared.places.Place.{Place}
use Rattle.explanations.specs.Explanation.{shown_place}

-- the place of a token, as a line of `op2` tells it
abbrev pub place_of : Pos → Place
place_of at = record { line = at.line; column = at.column }

-- ` at L:C`, and the line of that place in the source
abbrev pub placed : (source : List ℕ) → Pos → List ℕ
placed source at =
    codes " at " ++ decimal at.line ++ codes ":" ++ decimal at.column ++ codes "\n" ++ shown_place source (Some (place_of at))
