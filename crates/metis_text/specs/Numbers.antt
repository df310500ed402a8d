-- The numbers of a partition, as METIS writes it: line by line one for each element, in order (G. Karypis, "METIS: A Software Package for
-- Partitioning Unstructured Graphs", the manual, "Partition file"). Blanks may stand around a number, and empty lines at the end.
use Rattle.std.specs.Prelude.{ℕ, zero, suc, nat_lt, List, [], ◌∷◌, Option, Some, None, Result, Ok, Err, if◌then◌else◌}
use Rattle.op_num.specs.Spelling.{number_of}
use Rattle.op_num.specs.Cut.{Word, words}
use Rattle.op_num.specs.Automaton.{after, onto}
use Rattle.metis_text.specs.declared.owner_text.metis.refusals.MetisRefusal.{MetisRefusal}
use Rattle.metis_text.specs.declared.owner_text.metis.refusals.MetisRefusal.TheVariants.{NoRank, Many, Few}

-- a number below so many, which stands on this line
abbrev pub ranked : (ranks line : ℕ) → Option ℕ → Result ℕ MetisRefusal
ranked ranks line None = Err (NoRank line)
ranked ranks line (Some r) = if nat_lt r ranks then Ok r else Err (NoRank line)

-- The rank on this line, where the token comes next: one that stands before it is too much on its own line, and where it stands behind it
-- this line is empty.
abbrev pub rank_on : (ranks line : ℕ) → Word → Result ℕ MetisRefusal
rank_on ranks line w =
    if nat_lt w.line line then Err (Many w.line)
    else if nat_lt line w.line then Err (NoRank line)
    else ranked ranks line (number_of w.text)

-- the ranks of so many elements, of which the first stands on this line; or the first line that isn't as awaited
abbrev pub judged : (ranks elements line : ℕ) → List Word → Result (List ℕ) MetisRefusal
judged ranks zero line [] = Ok []
judged ranks zero line (w ∷ ws) = Err (Many w.line)
judged ranks (suc n) line [] = Err (Few line)
judged ranks (suc n) line (w ∷ ws) = after (rank_on ranks line w) (λ r. onto (judged ranks n (suc line) ws) (λ rs. r ∷ rs))

-- those of a whole text
abbrev pub ranks_in : (ranks elements : ℕ) → (bytes : List ℕ) → Result (List ℕ) MetisRefusal
ranks_in ranks elements bytes = judged ranks elements 1 (words 1 bytes)
