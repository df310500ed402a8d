use Rattle.std.proofs.Common.{◌≤◌}
use Rattle.step_judge.specs.Rising.{RisingUpTo}
use Rattle.step_judge.proofs.marks.items.is_rising.Given as goal

abbrev pub invariant-loop-here : goal.invariant-loop-here
invariant-loop-here l = record { after : 1 ≤ l.here; rising : RisingUpTo l.here l.sends.of l.receipts.of }
