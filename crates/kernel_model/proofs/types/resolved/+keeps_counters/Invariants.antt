use Rattle.std.proofs.Common.{◌↔◌, drop}
use Rattle.kernel_model.proofs.types.Rows.{Each}
use Rattle.kernel_model.specs.Resolved.{CountersKept}
use Rattle.kernel_model.proofs.types.resolved.+keeps_counters.Given as goal

abbrev pub decreases-keeps_counters : goal.decreases-keeps_counters
decreases-keeps_counters l = goal.size-keeps_counters l

abbrev pub invariant-loop-inner : goal.invariant-loop-inner
invariant-loop-inner l = CountersKept l.st ↔ Each CountersKept (drop l.inner-index l.inner-items)
