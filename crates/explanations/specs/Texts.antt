-- Texts by their names and by lines, and what is shown of one.
use Rattle.std.specs.Prelude.{ℕ, Bool, nat_eq, List, [], ◌++◌, Option, Some, None, slice_get, codes}
use Rattle.std.specs.List.{starts_with}
use Rattle.std.specs.Str.{bytes_eq}
use Rattle.explanations.specs.Cuts.{parts}
use Rattle.explanations.specs.declared.meanings.sources.TheConstants.{SOURCES}
use Rattle.explanations.specs.declared.meanings.bindings.TheConstants.{BINDINGS}
use Rattle.explanations.specs.declared.meanings.files.TheConstants.{FILES}
use Rattle.explanations.specs.declared.meanings.limits.TheConstants.{LIMITS}
use Rattle.explanations.specs.declared.meanings.program.TheConstants.{PROGRAM}
use Rattle.explanations.specs.declared.meanings.statuses.TheConstants.{STATUSES}

-- the texts of a table, one a line
abbrev pub texts_of : (table : List ℕ) → List (List ℕ)
texts_of table = parts 10 table

-- all texts: those of single errors, and then those of statuses
unfoldable pub all_texts : List (List ℕ)
all_texts =
    ((((texts_of SOURCES.now ++ texts_of BINDINGS.now) ++ texts_of FILES.now) ++ texts_of LIMITS.now) ++ texts_of PROGRAM.now)
    ++ texts_of STATUSES.now

-- a part that may be missing
abbrev pub part_or_none : Option (List ℕ) → List ℕ
part_or_none None = []
part_or_none (Some part) = part

-- a part of a text, with tabs between them: its name is 0, what its lines begin with 1, its cause 2, what to do about it 3
abbrev pub field : (text : List ℕ) (place : ℕ) → List ℕ
field text place = part_or_none (slice_get (parts 9 text) place)

-- a text has this name
abbrev pub has_name : (name text : List ℕ) → Bool
has_name name text = bytes_eq name (field text 0)

-- a line begins as those of a text do
abbrev pub explains : (line text : List ℕ) → Bool
explains line text = starts_with nat_eq line (field text 1)

-- a text in three lines
abbrev pub shown_text : List ℕ → List ℕ
shown_text text = field text 0 ++ codes "\n  " ++ field text 2 ++ codes "\n  -> " ++ field text 3 ++ codes "\n"
