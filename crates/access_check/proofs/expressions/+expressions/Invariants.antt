use Rattle.std.proofs.Common.{◌≡◌, ◌≤◌, ◌+◌, ◌*◌, map}
use Rattle.kernel_model.specs.Walk.{expr_found}
use Rattle.access_check.specs.Modes.{model_of}
use Rattle.access_check.specs.Found.{found_of}
use Rattle.access_check.specs.States.{has_component, counters_of}
use Rattle.access_check.proofs.Sizes.{size}
use Rattle.access_check.proofs.expressions.+expressions.Given as goal

abbrev pub decreases-after_chain : goal.decreases-after_chain
decreases-after_chain l = 2 * size l.e.now + 1

abbrev pub decreases-after_expression : goal.decreases-after_expression
decreases-after_expression l = 2 * size l.e.now

abbrev pub invariant-after_chain-down : goal.invariant-after_chain-down
invariant-after_chain-down l = record {
  found : expr_found (map model_of l.modes) l.rest (counters_of l.counters) (has_component l.covered) (found_of l.now) ≡ expr_found
      (map model_of l.modes) l.e (counters_of l.counters) (has_component l.covered) (found_of l.fn.found);
  no_larger : size l.rest ≤ size l.e;
}

abbrev pub decreases-after_chain-down : goal.decreases-after_chain-down
decreases-after_chain-down l = size l.rest
