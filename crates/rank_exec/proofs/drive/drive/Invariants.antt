use Rattle.std.proofs.Common.{◌≡◌, [], length, None}
use Rattle.rank_exec.specs.Driving.{Reached, to_come}
use Rattle.rank_exec.specs.RunRooms.{HasRunRoomOf}
use Rattle.rank_program.specs.Sound.{setup_in, layout_in, tables_in}
use Rattle.rank_exec.proofs.drive.drive.Given as goal

abbrev pub invariant-loop-next : goal.invariant-loop-next
invariant-loop-next g l = record {
  reached : Reached (setup_in l.program) (layout_in l.program) (tables_in l.program) (g.S.Steps.left l.fn.steps) (to_come l.next (g.S.Steps.left l.steps)) l.initial.machine l.machine;
  space : HasRunRoomOf l.program l.room;
  over : l.next ≡ None → g.S.Steps.left l.steps ≡ [];
}

abbrev pub decreases-loop-next : goal.decreases-loop-next
decreases-loop-next g l = length (to_come l.next (g.S.Steps.left l.steps))
