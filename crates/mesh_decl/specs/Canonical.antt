-- Canonical mesh texts.
use Rattle.std.specs.Prelude.{true, ◌≡◌, ℕ, ℤ, ◌+◌, ◌^◌, ◌<◌, List, [], ◌∷◌, ◌++◌, length, map, nat_eq, codes, FitsSigned, if◌then◌else◌}
use Rattle.std.specs.Int.{w32}
use Rattle.std.specs.List.{flat_map}
use Rattle.std.specs.Ordering.{int_eq}
use Rattle.std.specs.Fmt.{decimal, signed_decimal}
use Rattle.op_num.specs.Lines.{text_of_lines}
use Rattle.mesh_decl.specs.declared.text.entry.Form.{Form}
use Rattle.mesh_decl.specs.declared.text.entry.Form.TheVariants as form
use Rattle.mesh_decl.specs.declared.text.entry.Entry.{Entry}
use Rattle.mesh_decl.specs.declared.text.entry.Entry.TheVariants.{One, Many}
use Rattle.mesh_decl.specs.Token.{is_c_name}
use Rattle.mesh_decl.specs.Spelling.{Named, IsNew, header}

-- z in front of stretches: one more of the first, or a stretch of its own
abbrev pub onto_stretch : ℤ → List (ℕ × ℤ) → List (ℕ × ℤ)
onto_stretch z [] = (1, z) ∷ []
onto_stretch z (g ∷ gs) = if int_eq z g.1 then (g.0 + 1, g.1) ∷ gs else (1, z) ∷ g ∷ gs

-- the longest stretches of equal values: how many, and which
abbrev pub stretches : List ℤ → List (ℕ × ℤ)
stretches [] = []
stretches (z ∷ zs) = onto_stretch z (stretches zs)

-- a value by itself
abbrev pub alone : ℤ → ℕ × ℤ
alone z = (1, z)

-- the values of one token each
unfoldable pub groups : Form → List ℤ → List (ℕ × ℤ)
groups form.One zs = map alone zs
groups form.Two zs = stretches zs

-- the token of equal values: one as a VALUE, more as a run
abbrev pub piece_text : ℕ × ℤ → List ℕ
piece_text g = if nat_eq g.0 1 then signed_decimal g.1 else decimal g.0 ++ 42 ∷ signed_decimal g.1

-- the tokens of the values
abbrev pub pieces_of : Form → List ℤ → List (List ℕ)
pieces_of f zs = map piece_text (groups f zs)

-- the lines of an entry
abbrev pub lines_of : Form → List ℕ → Entry → List (List (List ℕ))
lines_of f name (One z) = (codes "int" ∷ name ∷ signed_decimal z ∷ []) ∷ []
lines_of f name (Many zs) = (codes "ints" ∷ name ∷ decimal (length zs) ∷ []) ∷ pieces_of f zs ∷ []

-- the lines of a named entry
abbrev pub entry_lines : Form → Named → List (List (List ℕ))
entry_lines f e = lines_of f e.0 e.1

-- the lines of the whole text
abbrev pub mesh_lines : Form → List Named → List (List (List ℕ))
mesh_lines f es = header f ∷ (flat_map (entry_lines f) es ++ (codes "done" ∷ []) ∷ [])

-- the canonical text of a form
abbrev pub canonical : Form → List Named → List ℕ
canonical f es = text_of_lines (mesh_lines f es)

-- the bytes of the lines of a named entry
abbrev pub entry_text : Form → Named → List ℕ
entry_text f e = text_of_lines (entry_lines f e)

-- each value is one of an `i32`
abbrev pub FitI32 : List ℤ → Type 0
FitI32 [] = Unit {0}
FitI32 (z ∷ zs) = FitsSigned w32 z × FitI32 zs

-- each value of an entry is one of an `i32`
abbrev pub HasI32 : Entry → Type 0
HasI32 (One z) = FitsSigned w32 z
HasI32 (Many zs) = FitI32 zs

-- a COUNT can say how many values an array has
abbrev pub IsCounted : Entry → Type 0
IsCounted (One z) = Unit {0}
IsCounted (Many zs) = length zs < 2 ^ 31

-- Each name is a C name, and no array has more than 2147483647 values.
abbrev pub CanBeSpelled : List Named → Type 0
CanBeSpelled [] = Unit {0}
CanBeSpelled (e ∷ es) = (is_c_name e.0 ≡ true) × IsCounted e.1 × CanBeSpelled es

-- entries of integers that can be spelled behind others, none of which has the name of one before
abbrev pub HaveSpelling : List Named → List Named → Type 0
HaveSpelling before [] = Unit {0}
HaveSpelling before (e ∷ es) = IsNew e.0 before × IsCounted e.1 × HasI32 e.1 × HaveSpelling (before ++ e ∷ []) es
