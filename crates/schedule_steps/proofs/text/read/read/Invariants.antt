use Rattle.std.proofs.Common.{◌≡◌, length}
use Rattle.op_num.specs.Cut.{uncut}
use Rattle.schedule_steps.specs.Reading.{Magic, Between, run_from}
use Rattle.schedule_steps.proofs.text.read.read.Given as goal

abbrev pub invariant-loop-lines : goal.invariant-loop-lines
invariant-loop-lines l = run_from Magic (uncut l.fn.bytes) ≡ run_from (Between l.lines.items) l.tokens

abbrev pub decreases-loop-lines : goal.decreases-loop-lines
decreases-loop-lines l = length l.tokens.words
