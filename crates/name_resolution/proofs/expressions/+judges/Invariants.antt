use Rattle.std.proofs.Common.{◌≡◌, ◌≤◌}
use Rattle.c_tree.specs.View.{expr_of}
use Rattle.name_resolution.specs.First.{least_from}
use Rattle.name_resolution.specs.Scopes.{scope}
use Rattle.name_resolution.specs.Kernels.{expr_breaches}
use Rattle.name_resolution.proofs.Sizes.{size}
use Rattle.name_resolution.proofs.expressions.+judges.Given as goal

abbrev pub decreases-judge_expr : goal.decreases-judge_expr
decreases-judge_expr l = size (expr_of l.expr.now)

abbrev pub invariant-loop-rest : goal.invariant-loop-rest
invariant-loop-rest l = record {
  kept : least_from l.first (expr_breaches l.in_kernel (scope l.known.file.now.entries l.known.own.now.entries) (expr_of l.rest)) ≡
      least_from l.initial.first (expr_breaches l.in_kernel (scope l.known.file.now.entries l.known.own.now.entries) (expr_of l.fn.expr));
  no_larger : size (expr_of l.rest) ≤ size (expr_of l.fn.expr);
}

abbrev pub decreases-loop-rest : goal.decreases-loop-rest
decreases-loop-rest l = size (expr_of l.rest)
