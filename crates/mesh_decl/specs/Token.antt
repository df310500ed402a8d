-- Tokens that are words of the format.
use Rattle.std.specs.Prelude.{ℕ, Bool, false, ◌&&◌, ◌||◌, nat_eq, nat_le, List, [], ◌∷◌, Option, Some, None, codes, if◌then◌else◌}
use Rattle.std.specs.List.{list_all}
use Rattle.std.specs.Str.{bytes_eq}
use Rattle.mesh_decl.specs.declared.text.entry.Form.{Form}
use Rattle.mesh_decl.specs.declared.text.entry.Form.TheVariants.{One, Two}
use Rattle.mesh_decl.specs.declared.text.token.Keyword.{Keyword}
use Rattle.mesh_decl.specs.declared.text.token.Keyword.TheVariants.{Int, Ints, Done}

-- a letter or `_`
abbrev pub letter : ℕ → Bool
letter b = (nat_le 97 b && nat_le b 122) || (nat_le 65 b && nat_le b 90) || nat_eq b 95

-- what may stand in a name behind its first byte
abbrev pub part : ℕ → Bool
part b = letter b || (nat_le 48 b && nat_le b 57)

-- a C name: a letter or `_`, and then letters, digits and `_`
abbrev pub is_c_name : List ℕ → Bool
is_c_name [] = false
is_c_name (b ∷ bs) = letter b && list_all part bs

-- the first token of the header
abbrev pub is_magic : List ℕ → Bool
is_magic text = bytes_eq text (codes "op2mesh")

-- the version that the second token of the header names, where it names one
abbrev pub version_of : List ℕ → Option Form
version_of text = if bytes_eq text (codes "1") then Some One else if bytes_eq text (codes "2") then Some Two else None

-- the word that a token is where an entry or `done` is awaited, where it is one
abbrev pub keyword_of : List ℕ → Option Keyword
keyword_of text =
    if bytes_eq text (codes "int") then Some Int else if bytes_eq text (codes "ints") then Some Ints else if bytes_eq text
    (codes "done") then Some Done else None
