use Rattle.std.proofs.Common.{◌≡◌}
use Rattle.c_tree.specs.View.{expr_of}
use Rattle.c_tree.specs.Places.{first_token}
use Rattle.c_tree.proofs.expressions.Expr.first_token.Given as goal

abbrev pub invariant-loop-first : goal.invariant-loop-first
invariant-loop-first l = first_token (expr_of l.first) ≡ first_token (expr_of l.self)
