use Rattle.std.proofs.Common.{◌≡◌, ◌+◌, ◌*◌, ◌-◌, ◌<◌, ◌≤◌, ℕ, length, map, get_or, pos}
use Rattle.kernel_model.specs.declared.types.expressions.RExpr.TheVariants.{Number}
use Rattle.kernel_model.specs.Obeys.{static}
use Rattle.access_check.specs.Chains.{over_chain}
use Rattle.access_check.specs.States.{counters_of, number_of}
use Rattle.access_check.proofs.Sizes.{size}
use Rattle.access_check.proofs.counters.+values.Given as goal

abbrev pub decreases-static_value : goal.decreases-static_value
decreases-static_value l = 3 * size l.e.now + 1

abbrev pub decreases-chain_value : goal.decreases-chain_value
decreases-chain_value l = 3 * size l.e.now + 2

abbrev pub decreases-value_after : goal.decreases-value_after
decreases-value_after l = 3 * size l.e.now

abbrev pub invariant-chain_value-down : goal.invariant-chain_value-down
invariant-chain_value-down l = record {
  bound : l.count ≤ 16;
  sized : length l.nodes ≡ 16;
  smaller : size l.here ≤ size l.e;
  all_smaller : (i : ℕ) → i < l.count → size (get_or (map (λ x. x.now) l.nodes) i (Number (pos 0))) ≤ size l.e;
  value : over_chain (counters_of l.counters) (map (λ x. x.now) l.nodes) l.count (static l.here (counters_of l.counters)) ≡ static l.e (counters_of l.counters);
}

abbrev pub decreases-chain_value-down : goal.decreases-chain_value-down
decreases-chain_value-down l = 16 - l.count

abbrev pub invariant-chain_value-up : goal.invariant-chain_value-up
invariant-chain_value-up l = record {
  fewer : l.count ≤ l.initial.count;
  value : over_chain (counters_of l.counters) (map (λ x. x.now) l.nodes) l.count (number_of l.x) ≡ static l.e (counters_of l.counters);
}

abbrev pub decreases-chain_value-up : goal.decreases-chain_value-up
decreases-chain_value-up l = l.count
