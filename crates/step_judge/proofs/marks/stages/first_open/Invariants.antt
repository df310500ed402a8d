use Rattle.std.proofs.Common.{◌≡◌, ◌-◌, ◌<◌, ◌≤◌, ℕ, length, get_or}
use Rattle.step_judge.proofs.marks.stages.first_open.Given as goal

abbrev pub invariant-loop-here : goal.invariant-loop-here
invariant-loop-here l = record { from : l.at ≤ l.here; within : l.here ≤ length l.left; passed : (c : ℕ) → l.at ≤ c → c < l.here → get_or l.left c 0 ≡ 0 }

abbrev pub decreases-loop-here : goal.decreases-loop-here
decreases-loop-here l = length l.left - l.here
