use Rattle.std.proofs.Common.{◌↔◌, drop}
use Rattle.kernel_model.proofs.types.Rows.{Each}
use Rattle.kernel_model.specs.Resolved.{StmtWithin}
use Rattle.kernel_model.proofs.types.resolved.+is_within.Given as goal

abbrev pub decreases-is_within : goal.decreases-is_within
decreases-is_within l = goal.size-is_within l

abbrev pub invariant-loop-inner : goal.invariant-loop-inner
invariant-loop-inner l = StmtWithin l.params l.scratch l.consts l.st ↔ Each (StmtWithin l.params l.scratch l.consts) (drop l.inner-index l.inner-items)
