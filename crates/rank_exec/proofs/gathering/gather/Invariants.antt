use Rattle.std.proofs.Common.{◌≡◌, ◌<◌, ◌++◌, List, length}
use Rattle.std.specs.Prelude.{vec_capacity}
use Rattle.rank_exec.specs.Closed.{RankGroup, all_closed}
use Rattle.rank_exec.specs.Rounds.{elements}
use Rattle.rank_exec.proofs.GatheredGroups.{Gathered}
use Rattle.rank_exec.proofs.gathering.gather.Given as goal

abbrev pub invariant-loop-steps : goal.invariant-loop-steps
invariant-loop-steps g l = record {
  gathered : (gs : List RankGroup)
      × (elements l.fn.of.alone l.fn.of.item l.fn.of.rank l.fn.places.items ++ g.S.Steps.left l.fn.steps
      ≡ all_closed l.fn.of.item gs ++ (elements l.last.alone l.fn.of.item l.last.rank l.places.items ++ g.S.Steps.left l.steps))
      × Gathered l.fn.of.item l.last.rank gs l.lists;
  item : l.last.item ≡ l.fn.of.item;
  rank : l.last.rank < length l.lists;
  some : 0 < length l.places.items;
  count : length l.lists ≡ length l.fn.lists;
  room : vec_capacity l.places ≡ vec_capacity l.fn.places;
}

abbrev pub decreases-loop-steps : goal.decreases-loop-steps
decreases-loop-steps g l = length (g.S.Steps.left l.steps)
