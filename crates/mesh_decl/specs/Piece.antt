-- What a token says where values are awaited.
use Rattle.std.specs.Prelude.{◌≡◌, ℕ, ℤ, ◌^◌, ◌<◌, Bool, not, ◌⊎◌, nat_eq, nat_lt, List, ◌∷◌, ◌++◌, length, take, drop, Some, Result, Ok, Err, if◌then◌else◌}
use lib.ListN.{replicate}
use Rattle.std.specs.List.{prefix_len}
use Rattle.op_num.specs.Spelling.{number_of, integer_of, u64_judged, i32_judged}
use Rattle.op_num.specs.declared.refusals.NumRefusal.{NumRefusal}
use Rattle.op_num.specs.declared.refusals.NumRefusal.TheVariants.{NotDigits, TooLarge}
use Rattle.mesh_decl.specs.declared.text.entry.Form.{Form}
use Rattle.mesh_decl.specs.declared.text.entry.Form.TheVariants.{One, Two}
use Rattle.mesh_decl.specs.declared.text.piece.Piece.{Piece}
use Rattle.mesh_decl.specs.declared.text.piece.Piece.TheVariants.{Values, NoPiece, OutOfRange, NoTimes}

-- the token spells the integer z, which fits 32 bits
abbrev pub IsValue : List ℕ → ℤ → Type 0
IsValue text z = i32_judged (integer_of text) ≡ Ok z

-- the token is N, `*` and a VALUE
pub record IsRun (text : List ℕ) (n : ℕ) (z : ℤ) : Type 0 where
  pub times : List ℕ
  pub value : List ℕ
  pub whole : text ≡ times ++ 42 ∷ value
  pub number : number_of times ≡ Some n
  pub some : 0 < n
  pub fits : n < 2 ^ 31
  pub spells : IsValue value z

-- the token gives z n times
abbrev pub Gives : Form → List ℕ → ℕ → ℤ → Type 0
Gives One text n z = (n ≡ 1) × IsValue text z
Gives Two text n z = ((n ≡ 1) × IsValue text z) ⊎ IsRun text n z

-- the token gives the values
abbrev pub IsPiece : Form → List ℕ → List ℤ → Type 0
IsPiece form text zs = (n : ℕ) × (z : ℤ) × Gives form text n z × (zs ≡ replicate n z)

-- a byte before a `*`
abbrev pub no_star : ℕ → Bool
no_star b = not (nat_eq b 42)

-- what is said of a token that was read as a number
abbrev pub one_value : Result ℤ NumRefusal → Piece
one_value (Ok z) = Values 1 z
one_value (Err TooLarge) = OutOfRange
one_value (Err NotDigits) = NoPiece

-- what a token says as a VALUE
abbrev pub value_piece : List ℕ → Piece
value_piece text = one_value (i32_judged (integer_of text))

-- In one token a number out of range comes first.
abbrev pub times_piece : ℕ → ℤ → Piece
times_piece n z = if nat_lt n (2 ^ 31) then if nat_eq n 0 then NoTimes else Values n z else OutOfRange

-- what a run says, by its number and its value as they were read
abbrev pub run_of : Result ℕ NumRefusal → Result ℤ NumRefusal → Piece
run_of (Err NotDigits) z = NoPiece
run_of (Err TooLarge) (Err NotDigits) = NoPiece
run_of (Err TooLarge) (Err TooLarge) = OutOfRange
run_of (Err TooLarge) (Ok z) = OutOfRange
run_of (Ok n) (Err NotDigits) = NoPiece
run_of (Ok n) (Err TooLarge) = OutOfRange
run_of (Ok n) (Ok z) = times_piece n z

-- what a token says as a run, N and VALUE standing apart
abbrev pub run_piece : List ℕ → List ℕ → Piece
run_piece times value = run_of (u64_judged (number_of times)) (i32_judged (integer_of value))

-- at a place before a byte, which is left out
abbrev pub split_piece : ℕ → List ℕ → Piece
split_piece n text = if nat_eq n (length text) then value_piece text else run_piece (take n text) (drop 1 (drop n text))

-- what a token says in this version
abbrev pub piece_of : Form → List ℕ → Piece
piece_of One text = value_piece text
piece_of Two text = split_piece (prefix_len no_star text) text
