-- Reading a mesh text: what is awaited, what a token does there, and the first token that may not stand where it does.
use Rattle.std.specs.Prelude.{◌≡◌, ℕ, ℤ, ◌+◌, ◌-◌, ◌^◌, ◌<◌, ◌≤◌, nat_eq, nat_lt, nat_le, List, [], ◌∷◌, ◌++◌, length, map, Option, Some, None, Result, Ok, Err, codes, if◌then◌else◌}
use lib.ListN.{replicate}
use Rattle.op_num.specs.Spelling.{number_of, integer_of, i32_judged}
use Rattle.op_num.specs.declared.refusals.NumRefusal.{NumRefusal}
use Rattle.op_num.specs.declared.refusals.NumRefusal.TheVariants.{NotDigits, TooLarge}
use Rattle.op_num.specs.Cut.{Word, Uncut, words, text_of}
use Rattle.op_num.specs.Automaton
use Rattle.op_num.specs.Automaton.{onto, RefusesAmong}
use Rattle.mesh_decl.specs.declared.text.entry.Form.{Form}
use Rattle.mesh_decl.specs.declared.text.entry.Entry.TheVariants.{One, Many}
use Rattle.mesh_decl.specs.declared.text.entry.MeshRefusal.{MeshRefusal}
use Rattle.mesh_decl.specs.declared.text.entry.MeshRefusal.TheVariants.{Header, Syntax, DuplicateEntry, WrongCount, NumberRange, Limit}
use Rattle.mesh_decl.specs.declared.text.entry.TheConstants.{MESH_VALUES}
use Rattle.mesh_decl.specs.declared.text.token.Keyword.{Keyword}
use Rattle.mesh_decl.specs.declared.text.token.Keyword.TheVariants as keyword
use Rattle.mesh_decl.specs.declared.text.piece.Piece.{Piece}
use Rattle.mesh_decl.specs.declared.text.piece.Piece.TheVariants.{Values, NoPiece, OutOfRange, NoTimes}
use Rattle.mesh_decl.specs.Token.{is_c_name, is_magic, version_of, keyword_of}
use Rattle.mesh_decl.specs.Piece.{piece_of}
use Rattle.mesh_decl.specs.Spelling.{Named, total, has_name, IsNew, ArePieces, AreMesh, Spells}

-- What is awaited behind the entries so far: the two tokens of the header, an entry or `done`, the name and the value of an `int`,
-- the name and the count of an `ints`, some more values of an array that has the last of these so far, the end.
pub data State : Type 0 where
  Magic : State
  Version : State
  Between : Form → List Named → State
  OneName : Form → List Named → State
  OneValue : Form → List Named → List ℕ → State
  ManyName : Form → List Named → State
  Count : Form → List Named → List ℕ → State
  Pieces : Form → List Named → List ℕ → ℕ → List ℤ → State
  End : List Named → State

-- the next state, or why a token is refused
abbrev pub Stepped : Type 0
Stepped = Result State MeshRefusal

-- behind some values of an array of which more are awaited, or none
abbrev pub filled : Form → List Named → List ℕ → ℕ → List ℤ → State
filled f es name left zs = if nat_eq left 0 then Between f (es ++ (name, Many zs) ∷ []) else Pieces f es name left zs

-- behind the second token of the header
abbrev pub versioned : Option Form → ℕ → Stepped
versioned None line = Err (Header line)
versioned (Some f) line = Ok (Between f [])

-- a token that begins no entry
abbrev pub stray : Piece → ℕ → MeshRefusal
stray NoPiece line = Syntax line
stray OutOfRange line = NumberRange line
stray NoTimes line = WrongCount line
stray (Values n z) line = WrongCount line

-- behind a token where an entry or `done` is awaited
abbrev pub began : Form → List Named → Option Keyword → Piece → ℕ → Stepped
began f es (Some keyword.Int) piece line = Ok (OneName f es)
began f es (Some keyword.Ints) piece line = Ok (ManyName f es)
began f es (Some keyword.Done) piece line = Ok (End es)
began f es None piece line = Err (stray piece line)

-- a name that is awaited
unfoldable pub named : List Named → Word → Result (List ℕ) MeshRefusal
named es w = if is_c_name w.text then if has_name w.text es then Err (DuplicateEntry w.line) else Ok w.text else Err (Syntax w.line)

-- that many values more
abbrev pub room_for : ℕ → ℕ → {A : Type 0} → A → Result A MeshRefusal
room_for so_far n x = if nat_le (so_far + n) MESH_VALUES then Ok x else Err (Limit (so_far + n))

-- the value of an `int`, by the token as it was read: a number, within the limit
unfoldable pub one_of : ℕ → ℕ → Result ℤ NumRefusal → Result ℤ MeshRefusal
one_of so_far line (Ok z) = room_for so_far 1 z
one_of so_far line (Err NotDigits) = Err (Syntax line)
one_of so_far line (Err TooLarge) = Err (NumberRange line)

-- the count of an `ints`, by the token as it was read: digits, at most 2147483647, within the limit
unfoldable pub count_of : ℕ → ℕ → Option ℕ → Result ℕ MeshRefusal
count_of so_far line None = Err (Syntax line)
count_of so_far line (Some n) = if nat_lt n (2 ^ 31) then room_for so_far n n else Err (NumberRange line)

-- the values that a token gives where some are awaited
unfoldable pub given : ℕ → ℕ → Piece → Result (ℕ × ℤ) MeshRefusal
given left line NoPiece = Err (WrongCount line)
given left line OutOfRange = Err (NumberRange line)
given left line NoTimes = Err (WrongCount line)
given left line (Values n z) = if nat_le n left then Ok (n, z) else Err (WrongCount line)

-- what is awaited behind a token, or why it may not stand where it does
unfoldable pub step : State → Word → Stepped
step Magic w = if is_magic w.text then Ok Version else Err (Header w.line)
step Version w = versioned (version_of w.text) w.line
step (Between f es) w = began f es (keyword_of w.text) (piece_of f w.text) w.line
step (OneName f es) w = onto (named es w) (OneValue f es)
step (ManyName f es) w = onto (named es w) (Count f es)
step (OneValue f es name) w = onto (one_of (total es) w.line (i32_judged (integer_of w.text))) (λ z. Between f (es ++ (name, One z) ∷ []))
step (Count f es name) w = onto (count_of (total es) w.line (number_of w.text)) (λ n. filled f es name n [])
step (Pieces f es name left zs) w =
    onto (given left w.line (piece_of f w.text)) (λ g. filled f es name (left - g.0) (zs ++ replicate g.0 g.1))
step (End es) w = Err (Syntax w.line)

-- the entries of a text, or why it is refused
abbrev pub Read : Type 0
Read = Result (List Named) MeshRefusal

-- no token is left, behind one on this line
abbrev pub finish : State → ℕ → Read
finish Magic line = Err (Header line)
finish Version line = Err (Header line)
finish (Between f es) line = Err (Syntax line)
finish (OneName f es) line = Err (Syntax line)
finish (ManyName f es) line = Err (Syntax line)
finish (OneValue f es name) line = Err (Syntax line)
finish (Count f es name) line = Err (Syntax line)
finish (Pieces f es name left zs) line = Err (WrongCount line)
finish (End es) line = Ok es

-- what reading the tokens to come gives, in this state
abbrev pub run_from : State → Uncut → Read
run_from p u = Automaton.run_from step finish p u

-- Whole entries, of which no more than the limit.
abbrev pub AreSome : Form → List (List ℕ) → List Named → Type 0
AreSome f ts es = AreMesh f ts es × (total es ≤ MESH_VALUES)

-- The tokens can stand at the front of a text, and this is awaited behind them.
abbrev pub Stands : List (List ℕ) → State → Type 0
Stands ts Magic = ts ≡ []
Stands ts Version = ts ≡ codes "op2mesh" ∷ []
Stands ts (Between f es) = AreSome f ts es
Stands ts (OneName f es) = (front : List (List ℕ)) × (ts ≡ front ++ codes "int" ∷ []) × AreSome f front es
Stands ts (ManyName f es) = (front : List (List ℕ)) × (ts ≡ front ++ codes "ints" ∷ []) × AreSome f front es
Stands ts (OneValue f es name) = (front : List (List ℕ)) × (ts ≡ front ++ codes "int" ∷ name ∷ []) × AreSome f front es × IsNew name es
Stands ts (Count f es name) = (front : List (List ℕ)) × (ts ≡ front ++ codes "ints" ∷ name ∷ []) × AreSome f front es × IsNew name es
Stands ts (Pieces f es name left zs) = (front : List (List ℕ)) × (count : List ℕ) × (pieces : List (List ℕ))
    × (ts ≡ front ++ codes "ints" ∷ name ∷ count ∷ pieces) × AreSome f front es × IsNew name es
    × (number_of count ≡ Some (length zs + left)) × (length zs + left < 2 ^ 31) × (total es + (length zs + left) ≤ MESH_VALUES)
    × (0 < left) × ArePieces f pieces zs
Stands ts (End es) = (f : Form) × (front : List (List ℕ)) × (ts ≡ front ++ codes "done" ∷ []) × AreSome f front es

-- The first token that may not stand where it does, or the end, is refused so.
abbrev pub Refuses : List ℕ → MeshRefusal → Type 0
Refuses bytes r = RefusesAmong step finish (λ ws p. Stands (map text_of ws) p) (words 1 bytes) r

-- What a text comes to: the entries that it spells, within the limit, or its refusal.
abbrev pub Reads : List ℕ → Read → Type 0
Reads bytes (Ok es) = Spells bytes es × (total es ≤ MESH_VALUES)
Reads bytes (Err r) = Refuses bytes r
