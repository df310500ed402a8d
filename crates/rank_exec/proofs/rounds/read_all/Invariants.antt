use Rattle.std.proofs.Common.{◌≡◌, ◌≤◌, ◌-◌, All, length}
use Rattle.std.specs.List.{AllWithin}
use Rattle.rank_state.specs.Indices.{values_at}
use Rattle.rank_program.specs.Rooms.{HasRoomOf}
use Rattle.rank_program.specs.Sound.{tables_in}
use Rattle.rank_machine.specs.declared.ranks.RankPart.{RankPart}
use Rattle.rank_exec.proofs.rounds.read_all.Given as goal

abbrev pub invariant-loop-rank : goal.invariant-loop-rank
invariant-loop-rank l = record {
  constants : AllWithin (λ (x : RankPart). x.room.constants.items ≡ values_at l.machine.variables (tables_in l.program).constants) l.parts 0 l.rank;
  space : All (λ (x : RankPart). HasRoomOf l.program x.room) l.parts;
  count : length l.parts ≡ length l.initial.parts;
  within : l.rank ≤ length l.parts;
}

abbrev pub decreases-loop-rank : goal.decreases-loop-rank
decreases-loop-rank l = length l.parts - l.rank
