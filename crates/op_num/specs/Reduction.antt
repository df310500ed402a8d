-- The operations by which the elements of a loop merge amounts into a cell, in any order: OP_INC, OP_MIN and OP_MAX of the OP2 manual.
use Rattle.std.specs.Prelude.{◌≡◌, ℤ, pos, negsuc, ◌+ℤ◌, FitsSigned}
use Rattle.std.specs.Int.{int_wrap, int_min, int_max, w32}

-- the operation of an OP_INC, OP_MIN or OP_MAX argument
pub data Reduction : Type 0 where
  Add : Reduction
  Min : Reduction
  Max : Reduction

-- the amount that changes nothing
abbrev pub unit_of : Reduction → ℤ
unit_of Add = pos 0
unit_of Min = pos 2147483647
unit_of Max = negsuc 2147483647

-- a with the amount b merged into it; a sum is reduced modulo 2 ^ 32 into the range of `i32`
abbrev pub merged : Reduction → ℤ → ℤ → ℤ
merged Add a b = int_wrap w32 (a +ℤ b)
merged Min a b = int_min a b
merged Max a b = int_max a b

-- amounts may be merged in any order and any grouping, and the unit changes no `i32`
pub record IsCommuting (unit : ℤ) (merge : ℤ → ℤ → ℤ) : Type 0 where
  pub unit_fits : FitsSigned w32 unit
  pub fits : (a b : ℤ) → FitsSigned w32 a → FitsSigned w32 b → FitsSigned w32 (merge a b)
  pub commutes : (a b : ℤ) → merge a b ≡ merge b a
  pub associates : (a b c : ℤ) → merge (merge a b) c ≡ merge a (merge b c)
  pub keeps : (a : ℤ) → FitsSigned w32 a → merge unit a ≡ a
