-- How many nodes an expression has.
use Rattle.std.proofs.Common.{ℕ, ◌+◌}
use Rattle.kernel_model.specs.declared.types.expressions.RExpr.{RExpr}
use Rattle.kernel_model.specs.declared.types.expressions.RExpr.TheVariants.{Number, Scalar, Constant, Arg', Local', Const', Unary', Binary', Choice', Paren', Extremum', Absolute'}

abbrev pub size : RExpr → ℕ
size (Number n) = 1
size (Scalar k) = 1
size (Constant k) = 1
size (Arg' a form p e at) = 1 + size e
size (Local' from count form p e at) = 1 + size e
size (Const' from count form p e at) = 1 + size e
size (Unary' op p a) = 1 + size a
size (Binary' op p a q b at) = 1 + (size a + size b)
size (Choice' p c q a r b) = 1 + (size c + (size a + size b))
size (Paren' p a) = 1 + size a
size (Extremum' which p a q b) = 1 + (size a + size b)
size (Absolute' p a) = 1 + size a
