-- Decimal numbers as text (ISO C 7.22.1.3, the decimal form): an optional sign, digits with or without a point, and an optional
-- exponent behind `e` or `E`.
use Rattle.std.specs.Prelude.{ℕ, ◌+◌, ◌-◌, ◌*◌, ◌==◌, ◌||◌, Bool, false, true, List, [], ◌∷◌, ◌++◌, length, take, drop, Option, Some, None, if◌then◌else◌}
use Rattle.std.specs.Char.{is_ascii_digit}
use Rattle.std.specs.List.{prefix_len}
use Rattle.op_num.specs.Spelling.{number_of}

-- the number ± digits * 10 ^ up / 10 ^ down
pub record Decimal : Type 0 where
  pub negative : Bool
  pub digits : ℕ
  pub up : ℕ
  pub down : ℕ

-- a power of ten, 10 ^ up / 10 ^ down
pub record Power : Type 0 where
  pub up : ℕ
  pub down : ℕ

-- `-` comes first
abbrev pub is_minus : List ℕ → Bool
is_minus [] = false
is_minus (c ∷ cs) = c == 45

-- without the sign that comes first, `-` or `+`
abbrev pub unsigned : List ℕ → List ℕ
unsigned [] = []
unsigned (c ∷ cs) = if c == 45 || c == 43 then cs else c ∷ cs

-- the digits that come first
abbrev pub front : List ℕ → List ℕ
front bytes = take (prefix_len is_ascii_digit bytes) bytes

-- what stands behind the digits that come first
abbrev pub behind : List ℕ → List ℕ
behind bytes = drop (prefix_len is_ascii_digit bytes) bytes

-- the digits behind a point that comes first; without a point there are none
abbrev pub fraction : List ℕ → List ℕ
fraction [] = []
fraction (c ∷ cs) = if c == 46 then front cs else []

-- what stands behind a point that comes first and its digits
abbrev pub behind_fraction : List ℕ → List ℕ
behind_fraction [] = []
behind_fraction (c ∷ cs) = if c == 46 then behind cs else c ∷ cs

-- the number that digits spell after those of n
unfoldable pub number_from : ℕ → List ℕ → ℕ
number_from n [] = n
number_from n (c ∷ cs) = number_from (n * 10 + (c - 48)) cs

-- ten to a number, or to minus a number
abbrev pub ten_to : Bool → Option ℕ → Option Power
ten_to minus None = None
ten_to true (Some n) = Some (record { up = 0; down = n })
ten_to false (Some n) = Some (record { up = n; down = 0 })

-- the power of ten that an exponent spells: nothing, or `e` or `E`, a sign or none, and digits
abbrev pub power_of : List ℕ → Option Power
power_of [] = Some (record { up = 0; down = 0 })
power_of (c ∷ cs) = if c == 101 || c == 69 then ten_to (is_minus cs) (number_of (unsigned cs)) else None

-- digits before and behind a point, one or more, times a power of ten
abbrev pub decimal : Bool → List ℕ → List ℕ → Option Power → Option Decimal
decimal minus [] [] p = None
decimal minus whole part None = None
decimal minus whole part (Some p) = Some (record {
  negative = minus;
  digits = number_from 0 (whole ++ part);
  up = p.up;
  down = p.down + length part;
})

-- the decimal that a text without its sign spells
abbrev pub decimal_from : Bool → List ℕ → Option Decimal
decimal_from minus text = decimal minus (front text) (fraction (behind text)) (power_of (behind_fraction (behind text)))

-- the decimal that a text spells; none where it is something else
abbrev pub decimal_of : List ℕ → Option Decimal
decimal_of text = decimal_from (is_minus text) (unsigned text)
