use Rattle.std.proofs.Common.{◌≤◌}
use Rattle.kernel_model.specs.declared.types.expressions.RExpr.{size-RExpr}
use Rattle.kernel_model.proofs.types.expressions.RExpr.+drop.Given as goal

abbrev pub invariant-loop-self : goal.invariant-loop-self
invariant-loop-self l = size-RExpr l.self ≤ size-RExpr l.fn.self
