-- Tokens that are words of the format.
use Rattle.std.specs.Prelude.{ℕ, Bool, List, Option, Some, None, codes, if◌then◌else◌}
use Rattle.std.specs.Str.{bytes_eq}
use Rattle.partition.specs.declared.part_text.token.Keyword.{Keyword}
use Rattle.partition.specs.declared.part_text.token.Keyword.TheVariants.{Set, Done}

-- the first token of the header
abbrev pub is_magic : List ℕ → Bool
is_magic text = bytes_eq text (codes "op2part")

-- the second token of the header
abbrev pub is_version : List ℕ → Bool
is_version text = bytes_eq text (codes "1")

-- the word that a token is where a set or `done` is awaited, where it is one
abbrev pub keyword_of : List ℕ → Option Keyword
keyword_of text = if bytes_eq text (codes "set") then Some Set else if bytes_eq text (codes "done") then Some Done else None
