use Rattle.std.proofs.Common.{◌≢◌, ◌↔◌, drop}
use Rattle.kernel_model.proofs.types.Rows.{Each}
use Rattle.kernel_model.specs.Resolved.{StoresOnly}
use Rattle.kernel_model.proofs.types.resolved.+misses.Given as goal

abbrev pub decreases-misses : goal.decreases-misses
decreases-misses l = goal.size-misses l

abbrev pub invariant-loop-inner : goal.invariant-loop-inner
invariant-loop-inner l = StoresOnly (λ j. j ≢ l.cell) l.st ↔ Each (StoresOnly (λ j. j ≢ l.cell)) (drop l.inner-index l.inner-items)
