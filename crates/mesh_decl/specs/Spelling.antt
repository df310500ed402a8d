-- The tokens of entries.
use Rattle.std.specs.Prelude.{◌≡◌, ℕ, ℤ, ◌^◌, ◌<◌, Bool, true, false, List, [], ◌∷◌, ◌++◌, length, Some, codes, is_some, sum_by}
use Rattle.std.specs.Map.{lookup}
use Rattle.std.specs.Str.{bytes_eq}
use Rattle.op_num.specs.Spelling.{number_of}
use Rattle.op_num.specs.Cut.{texts}
use Rattle.mesh_decl.specs.declared.text.entry.Form.{Form}
use Rattle.mesh_decl.specs.declared.text.entry.Form.TheVariants as form
use Rattle.mesh_decl.specs.declared.text.entry.Entry.{Entry}
use Rattle.mesh_decl.specs.declared.text.entry.Entry.TheVariants.{One, Many}
use Rattle.mesh_decl.specs.Token.{is_c_name}
use Rattle.mesh_decl.specs.Piece.{IsValue, IsPiece}

-- a name, and what stands under it
abbrev pub Named : Type 0
Named = List ℕ × Entry

-- how many values an entry has
abbrev pub size_of : Named → ℕ
size_of e = values_of e.1
  where
    values_of : Entry → ℕ
    values_of (One z) = 1
    values_of (Many zs) = length zs

-- how many values the entries have in all
abbrev pub total : List Named → ℕ
total es = sum_by size_of es

-- an entry of this name is there
abbrev pub has_name : List ℕ → List Named → Bool
has_name name es = is_some (lookup (bytes_eq name) es)

-- the tokens give the values, each its own or a run of them
abbrev pub ArePieces : Form → List (List ℕ) → List ℤ → Type 0
ArePieces f [] zs = zs ≡ []
ArePieces f (p ∷ ps) zs = (front : List ℤ) × (rest : List ℤ) × (zs ≡ front ++ rest) × IsPiece f p front × ArePieces f ps rest

-- the tokens of an entry
abbrev pub IsEntry : Form → List (List ℕ) → List ℕ → Entry → Type 0
IsEntry f ts name (One z) = (value : List ℕ) × (ts ≡ codes "int" ∷ name ∷ value ∷ []) × IsValue value z
IsEntry f ts name (Many zs) = (count : List ℕ) × (pieces : List (List ℕ)) × (ts ≡ codes "ints" ∷ name ∷ count ∷ pieces)
    × (number_of count ≡ Some (length zs)) × (length zs < 2 ^ 31) × ArePieces f pieces zs

-- a C name that no entry before has
abbrev pub IsNew : List ℕ → List Named → Type 0
IsNew name es = (is_c_name name ≡ true) × (has_name name es ≡ false)

-- the tokens of entries that stand behind others
abbrev pub AreEntries : Form → List Named → List (List ℕ) → List Named → Type 0
AreEntries f before ts [] = ts ≡ []
AreEntries f before ts (e ∷ es) = (front : List (List ℕ)) × (rest : List (List ℕ)) × (ts ≡ front ++ rest) × IsEntry f front e.0 e.1
    × IsNew e.0 before × AreEntries f (before ++ e ∷ []) rest es

-- the second token of the header
abbrev pub digit_of : Form → List ℕ
digit_of form.One = codes "1"
digit_of form.Two = codes "2"

-- the two tokens of the header
abbrev pub header : Form → List (List ℕ)
header f = codes "op2mesh" ∷ digit_of f ∷ []

-- the header, and the entries
abbrev pub AreMesh : Form → List (List ℕ) → List Named → Type 0
AreMesh f ts es = (body : List (List ℕ)) × (ts ≡ header f ++ body) × AreEntries f [] body es

-- The bytes, cut into tokens at blanks, are a header, the tokens of the entries, and `done`.
abbrev pub Spells : List ℕ → List Named → Type 0
Spells bytes es = (f : Form) × (ts : List (List ℕ)) × (texts bytes ≡ ts ++ codes "done" ∷ []) × AreMesh f ts es
