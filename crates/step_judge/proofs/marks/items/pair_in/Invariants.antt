use Rattle.std.proofs.Common.{◌≡◌, ◌+◌, ◌-◌, ◌≤◌, length, drop}
use Rattle.step_judge.specs.Item.{pair_at}
use Rattle.step_judge.proofs.marks.items.pair_in.Given as goal

abbrev pub invariant-loop-here : goal.invariant-loop-here
invariant-loop-here l = record {
  within : l.here ≤ length l.sends.of;
  rest : pair_at l.sends.of l.receipts.of l.from l.to ≡ l.here + pair_at (drop l.here l.sends.of) (drop l.here l.receipts.of) l.from l.to;
}

abbrev pub decreases-loop-here : goal.decreases-loop-here
decreases-loop-here l = length l.sends.of - l.here
