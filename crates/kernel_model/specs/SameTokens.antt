-- Which expressions are written in the same tokens.
use Rattle.std.specs.Prelude.{Bool, true, false, ◌&&◌, nat_eq}
use Rattle.std.specs.Ordering.{int_eq}
use Rattle.c_tree.specs.declared.expressions.BinaryOp.{BinaryOp}
use Rattle.c_tree.specs.declared.expressions.BinaryOp.TheVariants as binary
use Rattle.c_tree.specs.declared.expressions.UnaryOp.{UnaryOp}
use Rattle.c_tree.specs.declared.expressions.UnaryOp.TheVariants as unary
use Rattle.c_tree.specs.declared.expressions.MinMax.{MinMax}
use Rattle.c_tree.specs.declared.expressions.MinMax.TheVariants as min_max
use Rattle.kernel_model.specs.declared.types.expressions.ElementForm.{ElementForm}
use Rattle.kernel_model.specs.declared.types.expressions.ElementForm.TheVariants.{Index, Deref}
use Rattle.kernel_model.specs.declared.types.expressions.RExpr.{RExpr}
use Rattle.kernel_model.specs.declared.types.expressions.RExpr.TheVariants.{Number, Scalar, Constant, Arg', Local', Const', Unary', Binary', Choice', Paren', Extremum', Absolute'}

-- the same tokens are the same tree, places aside

-- of ways to write an element
abbrev pub same_form : ElementForm → ElementForm → Bool
same_form Index Index = true
same_form Deref Deref = true
same_form f g = false

-- of MIN and MAX
abbrev pub same_which : MinMax → MinMax → Bool
same_which min_max.Min min_max.Min = true
same_which min_max.Max min_max.Max = true
same_which o p = false

-- of unary operators
abbrev pub same_unary : UnaryOp → UnaryOp → Bool
same_unary unary.Minus unary.Minus = true
same_unary unary.Plus unary.Plus = true
same_unary unary.Not unary.Not = true
same_unary unary.Complement unary.Complement = true
same_unary o p = false

-- of binary operators
abbrev pub same_op : BinaryOp → BinaryOp → Bool
same_op binary.LogicalOr binary.LogicalOr = true
same_op binary.LogicalAnd binary.LogicalAnd = true
same_op binary.BitOr binary.BitOr = true
same_op binary.BitXor binary.BitXor = true
same_op binary.BitAnd binary.BitAnd = true
same_op binary.Equal binary.Equal = true
same_op binary.NotEqual binary.NotEqual = true
same_op binary.Less binary.Less = true
same_op binary.Greater binary.Greater = true
same_op binary.LessEqual binary.LessEqual = true
same_op binary.GreaterEqual binary.GreaterEqual = true
same_op binary.ShiftLeft binary.ShiftLeft = true
same_op binary.ShiftRight binary.ShiftRight = true
same_op binary.Add binary.Add = true
same_op binary.Sub binary.Sub = true
same_op binary.Mul binary.Mul = true
same_op binary.Div binary.Div = true
same_op binary.Rem binary.Rem = true
same_op o p = false

-- of expressions
abbrev pub same_tokens : RExpr → RExpr → Bool
same_tokens (Number n) (Number m) = int_eq n m
same_tokens (Scalar k) (Scalar j) = nat_eq k j
same_tokens (Constant k) (Constant j) = nat_eq k j
same_tokens (Arg' a form p e at) (Arg' b other_form q f bt) = nat_eq a b && (same_form form other_form && same_tokens e f)
same_tokens (Local' from count form p e at) (Local' other_from other_count other_form q f bt) =
    nat_eq from other_from && (nat_eq count other_count && (same_form form other_form && same_tokens e f))
same_tokens (Const' from count form p e at) (Const' other_from other_count other_form q f bt) =
    nat_eq from other_from && (nat_eq count other_count && (same_form form other_form && same_tokens e f))
same_tokens (Unary' op p a) (Unary' oq q b) = same_unary op oq && same_tokens a b
same_tokens (Binary' op p a q b at) (Binary' oq r c t d bt) = same_op op oq && (same_tokens a c && same_tokens b d)
same_tokens (Choice' p x q a r b) (Choice' s y t c u d) = same_tokens x y && (same_tokens a c && same_tokens b d)
same_tokens (Paren' p a) (Paren' q b) = same_tokens a b
same_tokens (Extremum' which p a q b) (Extremum' other_which r c t d) = same_which which other_which && (same_tokens a c && same_tokens b d)
same_tokens (Absolute' p a) (Absolute' q b) = same_tokens a b
same_tokens e f = false
