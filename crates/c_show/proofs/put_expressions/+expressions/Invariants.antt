use Rattle.std.proofs.Common.{◌≡◌, ◌≤◌, reverse}
use Rattle.c_tree.specs.declared.expressions.Expr.{size-Expr}
use Rattle.c_tree.specs.View.{expr_of}
use Rattle.c_show.specs.Ahead.{expr_first}
use Rattle.c_show.proofs.put_expressions.+expressions.Given as goal

abbrev pub invariant-put_expr-loop-rest : goal.invariant-put_expr-loop-rest
invariant-put_expr-loop-rest l = record {
  written : expr_first (expr_of l.rest) (reverse l.out.items) ≡ expr_first (expr_of l.fn.expr) (reverse l.initial.out.items);
  no_deeper : size-Expr l.rest ≤ size-Expr l.fn.expr;
}
