use Rattle.std.proofs.Common.{◌≡◌, ◌<◌, ◌++◌, List, length, IfSome}
use Rattle.schedule_steps.specs.declared.step.Step.{Step}
use Rattle.rank_exec.specs.Driving.{Done}
use Rattle.rank_exec.specs.RunRooms.{HasRunRoomOf}
use Rattle.rank_exec.specs.Rounds.{told}
use Rattle.rank_program.specs.Sound.{setup_in, layout_in, tables_in}
use Rattle.rank_exec.proofs.behind.run_behind.Given as goal

abbrev pub invariant-loop-next : goal.invariant-loop-next
invariant-loop-next g l = record {
  done : (done : List Step) × (g.S.Steps.left l.fn.steps ≡ done ++ (told l.next l.room.places.items ++ g.S.Steps.left l.steps))
      × Done (setup_in l.program) (layout_in l.program) (tables_in l.program) done l.fn.machine l.machine;
  space : HasRunRoomOf l.program l.room;
  some : IfSome l.next (λ of. 0 < length l.room.places.items);
  lists : length l.room.round.lists.items ≡ length l.fn.room.round.lists.items;
  parts : length l.room.round.parts.items ≡ length l.fn.room.round.parts.items;
}

abbrev pub decreases-loop-next : goal.decreases-loop-next
decreases-loop-next g l = length (told l.next l.room.places.items ++ g.S.Steps.left l.steps)
