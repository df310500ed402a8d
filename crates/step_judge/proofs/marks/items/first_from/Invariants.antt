use Rattle.std.proofs.Common.{ℕ, ◌-◌, ◌<◌, ◌≤◌, length, get_or}
use Rattle.step_judge.specs.Rising.{Before}
use Rattle.step_judge.proofs.marks.items.first_from.Given as goal

abbrev pub invariant-loop-low : goal.invariant-loop-low
invariant-loop-low l = record {
  order : l.low ≤ l.high;
  within : l.high ≤ length l.sends.of;
  before : (i : ℕ) → i < l.low → Before (get_or l.sends.of i 0) (get_or l.receipts.of i 0) l.from l.to;
  later : (i : ℕ) → l.high ≤ i → i < length l.sends.of → Before (get_or l.sends.of i 0) (get_or l.receipts.of i 0) l.from l.to → ⊥;
}

abbrev pub decreases-loop-low : goal.decreases-loop-low
decreases-loop-low l = l.high - l.low
