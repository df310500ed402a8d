use Rattle.std.proofs.Common.{◌<◌, ◌≤◌, ℕ, get_or}
use Rattle.std.specs.Prelude.{min}
use Rattle.rank_exec.proofs.planned_run.rooms.most_open.Given as goal

abbrev pub invariant-loop-count : goal.invariant-loop-count
invariant-loop-count l = record {
  most : (r : ℕ) → r < l.count-index → min l.group (get_or l.places r 0) ≤ l.most;
  few : l.most ≤ l.group;
}
