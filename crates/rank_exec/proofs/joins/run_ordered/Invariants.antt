use Rattle.std.proofs.Common.{◌≡◌}
use Rattle.kernel_model.specs.declared.types.faults.KernelFault.{KernelFault}
use Rattle.schedule_model.specs.Flat.{Flat, loop_flat}
use Rattle.rank_state.specs.Indices.{values_at}
use Rattle.rank_state.specs.Shows.{Shows}
use Rattle.rank_program.specs.Rooms.{HasRoomOf}
use Rattle.rank_program.specs.Sound.{setup_in, layout_in, tables_in}
use Rattle.rank_exec.proofs.joins.run_ordered.Given as goal

abbrev pub invariant-loop-element : goal.invariant-loop-element
invariant-loop-element l = record {
  reached : (f : Flat KernelFault) → Shows (setup_in l.program) (layout_in l.program) (tables_in l.program) l.initial.machine f
      → Shows (setup_in l.program) (layout_in l.program) (tables_in l.program) l.machine (loop_flat (setup_in l.program) (layout_in l.program) l.item l.element f);
  space : HasRoomOf l.program l.room;
  values : l.room.constants.items ≡ values_at l.machine.variables (tables_in l.program).constants;
  mail : l.machine.mail.left ≡ l.initial.machine.mail.left;
  frames : l.machine.frames.left ≡ l.initial.machine.frames.left;
}
