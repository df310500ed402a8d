use Rattle.std.proofs.Common.{All}
use Rattle.rank_program.specs.Rooms.{HasRoomOf}
use Rattle.rank_machine.specs.declared.ranks.RankPart.{RankPart}
use Rattle.rank_exec.proofs.round_room.RoundRoom.new.Given as goal

abbrev pub invariant-loop-rank : goal.invariant-loop-rank
invariant-loop-rank l = All (λ (x : RankPart). HasRoomOf l.program x.room) l.parts.items
