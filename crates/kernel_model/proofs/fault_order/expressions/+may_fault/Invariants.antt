use Rattle.std.proofs.Common.{◌≡◌, ◌≤◌}
use Rattle.kernel_model.specs.Effects.{may_fault}
use Rattle.kernel_model.proofs.fault_order.Sizes.{size}
use Rattle.kernel_model.proofs.fault_order.expressions.+may_fault.Given as goal

abbrev pub decreases-may_fault : goal.decreases-may_fault
decreases-may_fault l = size l.e.now

abbrev pub invariant-loop-rest : goal.invariant-loop-rest
invariant-loop-rest l = record {
  same : may_fault l.counts l.rest ≡ may_fault l.counts l.fn.e;
  no_larger : size l.rest ≤ size l.fn.e;
}

abbrev pub decreases-loop-rest : goal.decreases-loop-rest
decreases-loop-rest l = size l.rest
