use Rattle.std.proofs.Common.{◌≤◌}
use Rattle.c_tree.specs.declared.expressions.Expr.{size-Expr}
use Rattle.c_tree.proofs.expressions.Expr.+drop.Given as goal

abbrev pub invariant-loop-self : goal.invariant-loop-self
invariant-loop-self l = size-Expr l.self ≤ size-Expr l.fn.self
