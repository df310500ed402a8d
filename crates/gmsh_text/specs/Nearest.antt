-- The integer that is nearest to a fraction, and what a reader of scaled decimals answers.
use Rattle.std.specs.Prelude.{ℕ, ℤ, pos, neg_ℤ, ◌+◌, ◌*◌, ◌/◌, ◌^◌, ◌++◌, ◌<◌, ◌≤◌, List, length, Bool, true, false, Option, Some, None, Result, Ok, Err, if◌then◌else◌}
use Rattle.op_num.specs.Spelling.{fits_i32}
use Rattle.gmsh_text.specs.Decimal.{Decimal, number_from}
use Rattle.gmsh_text.specs.Bounded.{left, right}
use Rattle.gmsh_text.specs.declared.decimals.exponent.Shift.{Shift}
use Rattle.gmsh_text.specs.declared.decimals.reading.DecimalRefusal.{DecimalRefusal}
use Rattle.gmsh_text.specs.declared.decimals.reading.DecimalRefusal.TheVariants.{NotDecimal, TooLarge}

-- q is the number nearest to n / d, so at most a half away; where n / d lies halfway between two numbers it is the greater
pub record IsNearest (n d q : ℕ) : Type 0 where
  pub least : 2 * n < 2 * (q * d) + d
  pub most : 2 * (q * d) ≤ 2 * n + d

-- that number, for d above 0
abbrev pub nearest : ℕ → ℕ → ℕ
nearest n d = (2 * n + d) / (2 * d)

-- a number with its sign
abbrev pub signed : Bool → ℕ → ℤ
signed true n = neg_ℤ (pos n)
signed false n = pos n

-- the integer nearest to a decimal times a scale, ties away from zero
abbrev pub scaled : Decimal → ℕ → ℤ
scaled d scale = signed d.negative (nearest (scale * d.digits * 10 ^ d.up) (10 ^ d.down))

-- an integer, where it fits 32 bits
abbrev pub fitted : ℤ → Result ℤ DecimalRefusal
fitted z = if fits_i32 z then Ok z else Err TooLarge

-- the nearest integer of a decimal in parts: its sign, its digits before and behind the point, and how the point moves
abbrev pub rounded_from : ℕ → Bool → List ℕ → List ℕ → Shift → Result ℤ DecimalRefusal
rounded_from scale minus whole part shift =
    fitted (signed minus (nearest (scale * number_from 0 (whole ++ part) * 10 ^ right shift) (10 ^ (left shift + length part))))

-- what a reader answers: the integer where there is one that fits
abbrev pub judged : Option Decimal → ℕ → Result ℤ DecimalRefusal
judged None scale = Err NotDecimal
judged (Some d) scale = fitted (scaled d scale)

-- whether the reader answers an integer at this scale
abbrev pub fits_at : Option Decimal → ℕ → Bool
fits_at None scale = false
fits_at (Some d) scale = fits_i32 (scaled d scale)
