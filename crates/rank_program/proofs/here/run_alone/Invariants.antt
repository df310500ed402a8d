use Rattle.std.proofs.Common.{◌≤◌}
use Rattle.rank_program.specs.Batches.{GoesOn}
use Rattle.rank_program.specs.LocalRuns.{HasLoopRoom, StaysLent, share_in}
use Rattle.rank_program.proofs.here.run_alone.Given as goal

abbrev pub invariant-loop-i : goal.invariant-loop-i
invariant-loop-i g l = record {
  runs : GoesOn l.local l.from l.i (share_in l.local l.fn.share) (share_in l.local l.share);
  below : l.i ≤ l.to;
  lent : StaysLent l.fn.share l.share;
  room : HasLoopRoom l.local l.room;
}
