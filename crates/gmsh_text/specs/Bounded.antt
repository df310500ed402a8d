-- Numbers that are kept while they fit 64 bits, and powers of ten whose exponents are cut at 64 bits.
use Rattle.std.specs.Prelude.{ℕ, ◌≡◌, ◌+◌, ◌*◌, ◌/◌, ◌^◌, ◌-◌, ◌++◌, List, length, nat_lt, Option, Some, None, if◌then◌else◌}
use Rattle.gmsh_text.specs.Decimal.{Power, number_from}
use Rattle.gmsh_text.specs.declared.decimals.exponent.Shift.{Shift}
use Rattle.gmsh_text.specs.declared.decimals.exponent.Shift.TheVariants.{Left, Right}

-- the number, where it fits 64 bits
abbrev pub bounded : ℕ → Option ℕ
bounded n = if nat_lt n (2 ^ 64) then Some n else None

-- the number, or the greatest of 64 bits where that is less
abbrev pub cut : ℕ → ℕ
cut n = if nat_lt n (2 ^ 64) then n else 2 ^ 64 - 1

-- this is the number, cut at 64 bits, where there is one
abbrev pub IsCut : Option ℕ → Option ℕ → Type 0
IsCut None n = n ≡ None
IsCut (Some by) n = (m : ℕ) × (by ≡ cut m) × (n ≡ Some m)

-- the point moves by the exponent of this power, cut at 64 bits; where there is no power there is no move
abbrev pub IsShift : Option Shift → Option Power → Type 0
IsShift None p = p ≡ None
IsShift (Some (Left by)) p = (n : ℕ) × (by ≡ cut n) × (p ≡ Some (record { up = 0; down = n }))
IsShift (Some (Right by)) p = (n : ℕ) × (by ≡ cut n) × (p ≡ Some (record { up = n; down = 0 }))

-- how far the point moves to the right
abbrev pub right : Shift → ℕ
right (Left by) = 0
right (Right by) = by

-- how far it moves to the left
abbrev pub left : Shift → ℕ
left (Left by) = by
left (Right by) = 0

-- the scale times the digits before and behind a point, which is then moved; rounded down, where it fits 64 bits
abbrev pub product_from : ℕ → List ℕ → List ℕ → Shift → Option ℕ
product_from scale whole part shift =
    bounded (scale * number_from 0 (whole ++ part) * 10 ^ right shift / 10 ^ (left shift + length part))
