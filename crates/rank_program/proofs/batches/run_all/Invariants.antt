use Rattle.std.proofs.Common.{◌<◌, ◌≤◌, ◌-◌, length}
use Rattle.rank_program.specs.Batches.{GoesOn}
use Rattle.rank_program.specs.LocalRuns.{HasLoopRoom, StaysLent, share_in}
use Rattle.rank_program.proofs.batches.run_all.Given as goal

abbrev pub invariant-loop-at : goal.invariant-loop-at
invariant-loop-at g l = record {
  runs : GoesOn l.run.local.now 0 l.at (share_in l.run.local.now l.fn.share) (share_in l.run.local.now l.share);
  count : l.at ≤ length l.run.local.now.places.now;
  pause : 0 < l.pause;
  lent : StaysLent l.fn.share l.share;
  room : HasLoopRoom l.run.local.now l.room;
}

abbrev pub decreases-loop-at : goal.decreases-loop-at
decreases-loop-at g l = length l.run.local.now.places.now - l.at
