-- What is said of a line and its status.
use Rattle.std.specs.Prelude.{ℕ, nat_eq, List, [], ◌++◌, Option, Some, None, codes, slice_get, if◌then◌else◌}
use Rattle.std.specs.Fmt.{decimal}
use Rattle.std.specs.List.{find}
use Rattle.explanations.specs.Carets.{line_at, marked}
use Rattle.explanations.specs.Texts.{explains, all_texts, shown_text}
use Rattle.explanations.specs.declared.places.Place.{Place}
use Rattle.explanations.specs.Words.{line_words, place_in, tells_place, tells_limit}

-- a line of the source, if there is one, with a caret under this column
abbrev pub shown_line : Option (List ℕ) → (column : ℕ) → List ℕ
shown_line None column = []
shown_line (Some line) column = marked line column

-- a place in the source, if one is told
abbrev pub shown_place : (source : List ℕ) → Option Place → List ℕ
shown_place source None = []
shown_place source (Some at) = shown_line (line_at source at.line) at.column

-- the place that a line tells, in the source, if there is one
abbrev pub shown_at : (line : List ℕ) (source : Option (List ℕ)) → List ℕ
shown_at line None = []
shown_at line (Some source) = if tells_place line then shown_place source (place_in line) else []

-- a limit, and the size that is compared with it
abbrev pub shown_two : (most size : Option (List ℕ)) → List ℕ
shown_two (Some most) (Some size) = codes "here " ++ size ++ codes ", at most " ++ most ++ codes "\n"
shown_two _ _ = []

-- those of the words of a line of a limit, `op2: limit NAME LIMIT SIZE`
abbrev pub sizes_of : List (List ℕ) → List ℕ
sizes_of words = shown_two (slice_get words 3) (slice_get words 4)

-- those of a line, if it is one of a limit
abbrev pub shown_sizes : (line : List ℕ) → List ℕ
shown_sizes line = if tells_limit line then sizes_of (line_words line) else []

-- a text, if there is one
abbrev pub meaning : Option (List ℕ) → List ℕ
meaning None = []
meaning (Some t) = shown_text t

-- the line of a status that isn't 0, the status, the place in the source and the sizes that it tells, and what it means
abbrev pub explanation : (status : ℕ) (line : List ℕ) (source : Option (List ℕ)) → List ℕ
explanation status line source =
    line ++ codes "status " ++ decimal status ++ codes "\n" ++ shown_at line source ++ shown_sizes line
    ++ meaning (find (explains line) all_texts)

-- what is said of a status: that the call would end well, or the explanation of its line
abbrev pub said : (status : ℕ) (line : List ℕ) (source : Option (List ℕ)) → List ℕ
said status line source = if nat_eq status 0 then codes "op2 would end with status 0\n" else explanation status line source
