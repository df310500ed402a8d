use Rattle.std.proofs.Common.{◌-◌, ◌<◌, ◌≤◌, ◌∙◌, length, map, get_or, refl, ap, arith, length-set}
use Rattle.kernel_model.specs.Obeys.{static}
use Rattle.access_check.specs.Chains.{over_chain}
use Rattle.access_check.specs.States.{counters_of, number_of}
use Rattle.access_check.proofs.Sizes.{size}
use Rattle.access_check.proofs.StaticChains.{all_below_set, chain_down, value_down, turn_up, at_node}
use Rattle.access_check.proofs.counters.+values.Goals as goal

pub chain_value-down-init : goal.chain_value-down-init
chain_value-down-init t c =
    record {
      bound = omega arith;
      sized = refl;
      smaller = omega arith;
      all_smaller = λ i h. absurd (omega arith);
      value = refl;
    }

pub chain_value-down-preserved : goal.chain_value-down-preserved
chain_value-down-preserved t c =
    let cs = counters_of c.args.counters.now in
    let lt : c.down.count < length c.down.nodes = omega arith in
    let fewer : size c.deref-here.result.now ≤ size c.down.here.now = omega (arith, ap size c.deref-here.ensures, ap size c.in-Binary.is) in
    record {
      bound = omega arith;
      sized = length-set c.down.nodes c.down.count c.down.here ∙ c.down.invariant.sized;
      smaller = omega arith;
      all_smaller = all_below_set (λ e. size e ≤ size c.args.e.now) c.down.nodes (λ x. x.now) c.down.count c.down.here lt c.down.invariant.all_smaller c.down.invariant.smaller;
      value = chain_down cs c.down.nodes (λ x. x.now) c.down.count c.down.here (static c.deref-here.result.now cs) lt
          ∙ ap (over_chain cs (map (λ x. x.now) c.down.nodes) c.down.count)
          (value_down cs c.down.here.now c.in-Binary.op c.in-Binary.left c.in-Binary.right c.in-Binary.at c.deref-here.result.now
          c.in-Binary.is c.deref-here.ensures)
          ∙ c.down.invariant.value;
    }

pub chain_value-up-preserved : goal.chain_value-up-preserved
chain_value-up-preserved t c =
    let cs = counters_of c.args.counters.now in
    let some = c.up-test.true in
    let fits : c.up.count ≤ length c.down.nodes = omega arith in
    record {
      fewer = omega arith;
      value = turn_up cs c.down.nodes (λ x. x.now) c.up.count c.index-nodes-count.result (number_of c.up.x) (number_of c.value_after-x.result) some fits c.value_after-x.ensures ∙ c.up.invariant.value;
    }

pub chain_value-value_after-x-requires : goal.chain_value-value_after-x-requires
chain_value-value_after-x-requires t c =
    let lt : c.up.count - 1 < c.down.count = omega (arith, c.up-test.true, c.up.invariant.fewer) in
    let fits : c.up.count - 1 < length c.down.nodes = omega arith in
    let smaller : size (get_or c.down.nodes (c.up.count - 1) c.index-nodes-count.result).now ≤ size c.args.e.now =
    at_node (λ e. size e ≤ size c.args.e.now) c.down.nodes (λ x. x.now) (c.up.count - 1) c.index-nodes-count.result fits (c.down.invariant.all_smaller (c.up.count - 1) lt) in
    omega (arith, smaller)
