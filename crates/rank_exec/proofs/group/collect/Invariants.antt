use Rattle.std.proofs.Common.{◌≡◌, ◌≤◌, ◌++◌, length}
use Rattle.std.specs.Prelude.{vec_capacity}
use Rattle.rank_exec.specs.RunRooms.{most_begins}
use Rattle.rank_state.specs.Groups.{begins}
use Rattle.rank_exec.proofs.group.collect.Given as goal

abbrev pub invariant-loop-next : goal.invariant-loop-next
invariant-loop-next g l = record {
  all : begins l.item l.rank l.places.items ++ g.S.Steps.left l.steps ≡ begins l.item l.rank l.initial.places.items ++ g.S.Steps.left l.initial.steps;
  more : length l.initial.places.items ≤ length l.places.items;
  few : length l.places.items ≤ most_begins;
  space : vec_capacity l.places ≡ vec_capacity l.initial.places;
}

abbrev pub decreases-loop-next : goal.decreases-loop-next
decreases-loop-next g l = length (g.S.Steps.left l.steps)
