-- Operators on numbers of 32 bits have numbers of 32 bits, where they have no fault.
use Rattle.std.specs.Prelude.{ℤ, Bool, Ok, Err, FitsSigned}
use Rattle.std.specs.Int.{w32}
use Rattle.c_tree.specs.declared.lexer.tokens.Pos.{Pos}
use Rattle.c_tree.specs.declared.expressions.BinaryOp.{BinaryOp}
use Rattle.c_tree.specs.declared.expressions.UnaryOp.{UnaryOp}
use Rattle.c_tree.specs.declared.expressions.MinMax.{MinMax}
use Rattle.c_tree.specs.declared.declarations.AssignOp.{AssignOp}
use Rattle.kernel_model.specs.Numbers.{Value, truth, apply, apply_unary, extremum, magnitude}
use Rattle.kernel_model.specs.Meaning.{stored}

-- a value that is no fault is a number of 32 bits
abbrev pub IsNumber : Value → Type 0
IsNumber (Ok v) = FitsSigned w32 v
IsNumber (Err f) = Unit {0}

-- operators, tests, extrema and assignments make numbers of 32 bits of such numbers, or faults
pub record OperatorsStayInRange : Type 0 where
  pub tests : (t : Bool) → FitsSigned w32 (truth t)
  pub unary : (op : UnaryOp) (x : ℤ) → FitsSigned w32 x → FitsSigned w32 (apply_unary op x)
  pub binary : (op : BinaryOp) (at : Pos) (x y : ℤ) → FitsSigned w32 x → FitsSigned w32 y → IsNumber (apply op at x y)
  pub extrema : (which : MinMax) (x y : ℤ) → FitsSigned w32 x → FitsSigned w32 y → FitsSigned w32 (extremum which x y)
  pub magnitudes : (x : ℤ) → FitsSigned w32 (magnitude x)
  pub assigned : (op : AssignOp) (at : Pos) (old v : ℤ) → FitsSigned w32 old → FitsSigned w32 v → IsNumber (stored op at old v)
