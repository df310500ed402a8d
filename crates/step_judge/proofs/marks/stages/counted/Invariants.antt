use Rattle.std.proofs.Common.{◌≡◌, ◌+◌, ◌<◌, ℕ, length, get_or, drop}
use Rattle.step_judge.specs.Counts.{count_of}
use Rattle.step_judge.proofs.marks.stages.counted.Given as goal

abbrev pub invariant-loop-stage : goal.invariant-loop-stage
invariant-loop-stage l = record { size : length l.left.items ≡ l.stages; sum : (c : ℕ) → c < l.stages → get_or l.left.items c 0 + count_of (drop l.stage-index l.of) c ≡ count_of l.of c }
