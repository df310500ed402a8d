use Rattle.std.proofs.Common.{◌≡◌, ◌+◌, ◌*◌, ◌≤◌, length}
use Rattle.c_tree.specs.View.{expr_of}
use Rattle.name_resolution.specs.Scopes.{scope}
use Rattle.kernel_model.specs.View.{rexpr_of}
use Rattle.name_resolution.specs.Kernels.{value}
use Rattle.name_resolution.specs.Numbers.{ExprFits}
use Rattle.name_resolution.proofs.Sizes.{size}
use Rattle.name_resolution.proofs.Chains.{over, AllFit}
use Rattle.name_resolution.proofs.expressions.+values.Given as goal

abbrev pub decreases-chain_value : goal.decreases-chain_value
decreases-chain_value l = 2 * size (expr_of l.expr.now) + 1

abbrev pub decreases-value_box : goal.decreases-value_box
decreases-value_box l = 2 * size (expr_of l.expr.now) + 1

abbrev pub decreases-value : goal.decreases-value
decreases-value l = 2 * size (expr_of l.expr.now)

abbrev pub invariant-chain_value-down : goal.invariant-chain_value-down
invariant-chain_value-down l = record {
  whole : over l.operations.items (value l.places (scope l.known.file.now.entries l.known.own.now.entries) (expr_of l.rest)) ≡ value
      l.places (scope l.known.file.now.entries l.known.own.now.entries) (expr_of l.expr);
  fits : AllFit l.operations.items;
  no_larger : size (expr_of l.rest) ≤ size (expr_of l.expr);
}

abbrev pub decreases-chain_value-down : goal.decreases-chain_value-down
decreases-chain_value-down l = size (expr_of l.rest)

abbrev pub invariant-chain_value-up : goal.invariant-chain_value-up
invariant-chain_value-up l = record {
  whole : over l.operations.items (rexpr_of l.whole) ≡ value l.places (scope l.known.file.now.entries l.known.own.now.entries) (expr_of l.expr);
  fits : AllFit l.operations.items × ExprFits (rexpr_of l.whole);
}

abbrev pub decreases-chain_value-up : goal.decreases-chain_value-up
decreases-chain_value-up l = length l.operations.items
