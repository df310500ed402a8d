use Rattle.std.proofs.Common.{◌≡◌, ◌+◌, take, drop}
use Rattle.kernel_model.specs.declared.types.faults.KernelFault.{KernelFault}
use Rattle.schedule_model.specs.Layout.{by_place}
use Rattle.schedule_model.specs.Flat.{Flat, flat_from}
use Rattle.rank_state.specs.Shows.{Shows}
use Rattle.rank_state.specs.Groups.{begins, Distinct, Planned, AllShut}
use Rattle.rank_program.specs.Rooms.{HasRoomOf}
use Rattle.rank_program.specs.Sound.{setup_in, layout_in, tables_in}
use Rattle.rank_exec.proofs.group_steps.open_all.Given as goal

abbrev pub invariant-loop-i : goal.invariant-loop-i
invariant-loop-i l = record {
  planned : Planned (by_place (setup_in l.program) (layout_in l.program)) l.group.item l.group.rank (drop l.i l.group.places.now);
  shut : AllShut l.machine.frames.panes l.group.rank (drop l.i l.group.places.now);
  distinct : Distinct (drop l.i l.group.places.now);
  shows : (f : Flat KernelFault) → Shows (setup_in l.program) (layout_in l.program) (tables_in l.program) l.initial.machine f
      → Shows (setup_in l.program) (layout_in l.program) (tables_in l.program) l.machine
      (flat_from (setup_in l.program) (layout_in l.program) (begins l.group.item l.group.rank (take l.i l.group.places.now)) f);
  space : HasRoomOf l.program l.room;
  mail : l.machine.mail.left ≡ l.initial.machine.mail.left;
  frames : l.machine.frames.left + l.i ≡ l.initial.machine.frames.left;
}
