use Rattle.std.proofs.Common.{All, sym, subst}
use Rattle.std.proofs.lemmas.List.Elements.{All-push}
use Rattle.rank_program.specs.Rooms.{HasRoomOf}
use Rattle.rank_machine.specs.declared.ranks.RankPart.{RankPart}
use Rattle.rank_exec.proofs.round_room.RoundRoom.new.Goals as goal

pub loop-rank-preserved : goal.loop-rank-preserved
loop-rank-preserved c =
    let fits = λ (x : RankPart). HasRoomOf c.args.program.now x.room in
    subst (All fits) (sym c.in_ok-push-2.ensures.items) (All-push fits c.loop-rank.parts.items _ c.loop-rank.invariant c.in_ok-room_for.ensures)
