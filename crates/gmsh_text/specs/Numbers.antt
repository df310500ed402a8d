-- Tokens that are numbers or words of the format.
use Rattle.std.specs.Prelude.{ℕ, ℤ, ◌^◌, nat_lt, List, Option, Some, None, Result, Ok, Err, if◌then◌else◌}
use Rattle.std.specs.Str.{bytes_eq}
use Rattle.op_num.specs.Spelling.{number_of, integer_of, fits_i32}
use Rattle.op_num.specs.Cut.{Word, Uncut}
use Rattle.op_num.specs.Automaton.{onto}
use Rattle.gmsh_text.specs.Decimal.{Decimal, decimal_of}
use Rattle.gmsh_text.specs.declared.refusal.TextRefusal.{TextRefusal}
use Rattle.gmsh_text.specs.declared.refusal.TextRefusal.TheVariants.{Syntax, NumberRange}
use Rattle.gmsh_text.specs.declared.nodes.Tag.{Tag}
use Rattle.gmsh_text.specs.Parsing.{Parsed, taken, and_then, repeat}

-- the number that was spelled, where it is below the end
abbrev pub number_below : ℕ → ℕ → Option ℕ → Result ℕ TextRefusal
number_below end line None = Err (Syntax line)
number_below end line (Some n) = if nat_lt n end then Ok n else Err (NumberRange line)

-- the integer that was spelled, where it fits 32 bits
abbrev pub integer_within : ℕ → Option ℤ → Result ℤ TextRefusal
integer_within line None = Err (Syntax line)
integer_within line (Some z) = if fits_i32 z then Ok z else Err (NumberRange line)

-- the token itself, where a decimal is spelled
abbrev pub decimal_word : Word → Option Decimal → Result Word TextRefusal
decimal_word w None = Err (Syntax w.line)
decimal_word w (Some d) = Ok w

-- the token, where it has these bytes
abbrev pub expected_word : TextRefusal → List ℕ → Word → Result Word TextRefusal
expected_word e text w = if bytes_eq w.text text then Ok w else Err e

-- a number below the end is awaited
unfoldable pub number : ℕ → Uncut → Parsed ℕ
number end u = taken (λ w. number_below end w.line (number_of w.text)) u

-- an integer is awaited
unfoldable pub integer : Uncut → Parsed ℤ
integer u = taken (λ w. integer_within w.line (integer_of w.text)) u

-- a decimal is awaited
unfoldable pub decimal : Uncut → Parsed Word
decimal u = taken (λ w. decimal_word w (decimal_of w.text)) u

-- a tag is awaited, which is kept with its line
unfoldable pub tag : Uncut → Parsed Tag
tag u = taken (λ w. onto (number_below (2 ^ 32) w.line (number_of w.text)) (λ n. record { line = w.line; number = n })) u

-- this word is awaited
unfoldable pub word : List ℕ → Uncut → Parsed Word
word text u = taken (λ w. expected_word (Syntax w.line) text w) u

-- a decimal is passed over
abbrev pub skip_decimal : Unit {0} → Uncut → Parsed (Unit {0})
skip_decimal s u = and_then (decimal u) (λ w v. Ok (s, v))

-- an integer is passed over
abbrev pub skip_integer : Unit {0} → Uncut → Parsed (Unit {0})
skip_integer s u = and_then (integer u) (λ z v. Ok (s, v))

-- that many decimals are passed over
abbrev pub skip_decimals : ℕ → Uncut → Parsed (Unit {0})
skip_decimals n u = repeat skip_decimal n tt u

-- that many integers are passed over
abbrev pub skip_integers : ℕ → Uncut → Parsed (Unit {0})
skip_integers n u = repeat skip_integer n tt u
