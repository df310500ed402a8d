-- The operators on numbers of 32 bits, each result in the range of `i32` (ISO C 6.5.3 to 6.5.14; overflows wrap).
use Rattle.std.specs.Prelude.{ℤ, pos, Bool, true, false, cond, ◌&&◌, ◌||◌, ◌+ℤ◌, ◌-ℤ◌, ◌*ℤ◌, neg_ℤ, int_div, int_lt, unsigned_abs, Result, Ok, Err}
use Rattle.std.specs.Ordering.{int_eq}
use Rattle.std.specs.Int.{w32, int_bit_and, int_bit_or, int_bit_xor, int_bit_not}
use Rattle.op_num.specs.Wrapping.{wrapped, absolute, remainder, doubled, halved}
use Rattle.op_num.specs.declared.refusals.Fault.{Fault}
use Rattle.op_num.specs.declared.refusals.Fault.TheVariants.{DivZero, ShiftCount}
use Rattle.c_tree.specs.declared.lexer.tokens.Pos.{Pos}
use Rattle.c_tree.specs.declared.expressions.BinaryOp.{BinaryOp}
use Rattle.c_tree.specs.declared.expressions.BinaryOp.TheVariants as binary
use Rattle.c_tree.specs.declared.expressions.UnaryOp.{UnaryOp}
use Rattle.c_tree.specs.declared.expressions.UnaryOp.TheVariants as unary
use Rattle.c_tree.specs.declared.expressions.MinMax.{MinMax}
use Rattle.c_tree.specs.declared.expressions.MinMax.TheVariants as min_max
use Rattle.op_num.specs.Reduction.{Reduction, Min, Max, merged}
use Rattle.kernel_model.specs.declared.types.faults.KernelFault.{KernelFault}

-- `x + y`
unfoldable pub sum : ℤ → ℤ → ℤ
sum x y = wrapped (x +ℤ y)

-- `x - y`
unfoldable pub difference : ℤ → ℤ → ℤ
difference x y = wrapped (x -ℤ y)

-- `x * y`
unfoldable pub product : ℤ → ℤ → ℤ
product x y = wrapped (x *ℤ y)

-- `x / y`, which truncates towards 0
unfoldable pub quotient : ℤ → ℤ → ℤ
quotient x y = wrapped (int_div x y)

-- `x % y`, what the quotient leaves
unfoldable pub rest : ℤ → ℤ → ℤ
rest x y = remainder x y

-- `x << n`, a product with 2 ^ n
unfoldable pub shifted_left : ℤ → ℤ → ℤ
shifted_left x n = wrapped (doubled x (unsigned_abs n))

-- `x >> n`, a quotient by 2 ^ n, rounded down
unfoldable pub shifted_right : ℤ → ℤ → ℤ
shifted_right x n = halved x (unsigned_abs n)

-- `x & y`
unfoldable pub and_bits : ℤ → ℤ → ℤ
and_bits x y = int_bit_and w32 x y

-- `x | y`
unfoldable pub or_bits : ℤ → ℤ → ℤ
or_bits x y = int_bit_or w32 x y

-- `x ^ y`
unfoldable pub xor_bits : ℤ → ℤ → ℤ
xor_bits x y = int_bit_xor w32 x y

-- `~x`
unfoldable pub complement : ℤ → ℤ
complement x = int_bit_not w32 x

-- `-x`
unfoldable pub negated : ℤ → ℤ
negated x = wrapped (neg_ℤ x)

-- `ABS(x)`
unfoldable pub magnitude : ℤ → ℤ
magnitude x = wrapped (absolute x)

-- a test as a number
abbrev pub truth : Bool → ℤ
truth b = cond b (pos 1) (pos 0)

-- the opposite
abbrev pub not : Bool → Bool
not b = cond b false true

-- the number is 0
abbrev pub is_zero : ℤ → Bool
is_zero z = int_eq z (pos 0)

-- ---- operators with faults

-- a number, or the fault with its place
abbrev pub Value : Type 0
Value = Result ℤ KernelFault

-- a fault of that kind at that place
abbrev pub fault : Fault → Pos → KernelFault
fault kind at = record { kind = kind; at = at }

-- nothing is divided by 0
abbrev pub unless_zero : ℤ → Pos → ℤ → Value
unless_zero d at v = cond (is_zero d) (Err (fault DivZero at)) (Ok v)

-- numbers are shifted by 0 to 31
abbrev pub is_shift : ℤ → Bool
is_shift n = not (int_lt n (pos 0)) && not (int_lt (pos 31) n)

-- a value, where numbers are shifted by so much
abbrev pub if_shift : ℤ → Pos → ℤ → Value
if_shift n at v = cond (is_shift n) (Ok v) (Err (fault ShiftCount at))

-- the value of an operator at that place
abbrev pub apply : BinaryOp → Pos → ℤ → ℤ → Value
apply binary.LogicalOr at x y = Ok (truth (not (is_zero x) || not (is_zero y)))
apply binary.LogicalAnd at x y = Ok (truth (not (is_zero x) && not (is_zero y)))
apply binary.BitOr at x y = Ok (or_bits x y)
apply binary.BitXor at x y = Ok (xor_bits x y)
apply binary.BitAnd at x y = Ok (and_bits x y)
apply binary.Equal at x y = Ok (truth (int_eq x y))
apply binary.NotEqual at x y = Ok (truth (not (int_eq x y)))
apply binary.Less at x y = Ok (truth (int_lt x y))
apply binary.Greater at x y = Ok (truth (int_lt y x))
apply binary.LessEqual at x y = Ok (truth (not (int_lt y x)))
apply binary.GreaterEqual at x y = Ok (truth (not (int_lt x y)))
apply binary.ShiftLeft at x y = if_shift y at (shifted_left x y)
apply binary.ShiftRight at x y = if_shift y at (shifted_right x y)
apply binary.Add at x y = Ok (sum x y)
apply binary.Sub at x y = Ok (difference x y)
apply binary.Mul at x y = Ok (product x y)
apply binary.Div at x y = unless_zero y at (quotient x y)
apply binary.Rem at x y = unless_zero y at (rest x y)

-- the value of a unary operator
abbrev pub apply_unary : UnaryOp → ℤ → ℤ
apply_unary unary.Minus x = negated x
apply_unary unary.Plus x = x
apply_unary unary.Not x = truth (is_zero x)
apply_unary unary.Complement x = complement x

-- `||` and `&&` alone may leave their right side out
abbrev pub is_lazy : BinaryOp → Bool
is_lazy binary.LogicalOr = true
is_lazy binary.LogicalAnd = true
is_lazy op = false

-- the left side alone tells the value
abbrev pub is_settled : BinaryOp → ℤ → Bool
is_settled binary.LogicalOr x = not (is_zero x)
is_settled binary.LogicalAnd x = is_zero x
is_settled op x = false

-- what OP_MIN and OP_MAX merge with
abbrev pub reduction_of : MinMax → Reduction
reduction_of min_max.Min = Min
reduction_of min_max.Max = Max

-- `MIN(x, y)` or `MAX(x, y)`
abbrev pub extremum : MinMax → ℤ → ℤ → ℤ
extremum which x y = merged (reduction_of which) x y
