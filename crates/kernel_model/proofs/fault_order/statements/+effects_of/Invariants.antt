use Rattle.std.proofs.Common.{◌≡◌, drop}
use Rattle.kernel_model.specs.Effects.{in_order, effects_of, list_effects}
use Rattle.kernel_model.proofs.fault_order.statements.+effects_of.Given as goal

abbrev pub invariant-loop-inner : goal.invariant-loop-inner
invariant-loop-inner l = in_order l.done (list_effects l.counts (drop l.inner-index l.inner-items)) ≡ effects_of l.counts l.st
