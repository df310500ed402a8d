use Rattle.std.proofs.Common.{◌≡◌, ◌-◌, ◌≤◌, length, map, drop}
use Rattle.rank_state.specs.Stops.{stop_in}
use Rattle.rank_machine.specs.OnRanks.{share_in, kept_of_all}
use Rattle.rank_machine.proofs.ranks.kept_of_parts.Given as goal

abbrev pub invariant-loop-rank : goal.invariant-loop-rank
invariant-loop-rank l = record {
  kept : kept_of_all (stop_in l.least) (map share_in (drop l.rank l.parts)) ≡ kept_of_all (stop_in l.fn.fault) (map share_in l.parts);
  within : l.rank ≤ length l.parts;
}

abbrev pub decreases-loop-rank : goal.decreases-loop-rank
decreases-loop-rank l = length l.parts - l.rank
