use Rattle.std.proofs.Common.{◌≡◌, ◌<◌, ℕ, length, get_or}
use Rattle.rank_program.specs.Rooms.{HasRoomOf}
use Rattle.rank_program.specs.Jobs.{part, task_at}
use Rattle.rank_exec.specs.Tasks.{IsLoaded, KeepsGroupRoom}
use Rattle.rank_program.specs.Sound.{setup_in, layout_in, tables_in}
use Rattle.rank_exec.proofs.group_steps.load_all.Given as goal

abbrev pub invariant-loop-place : goal.invariant-loop-place
invariant-loop-place l = record {
  loaded : (i : ℕ) → i < l.place-index → IsLoaded (setup_in l.program) (layout_in l.program) (tables_in l.program) l.group.item l.group.rank
      (get_or l.group.places.now i 0) l.machine (task_at l.buffers.tasks.items i) (part l.buffers.window i l.buffers.staging.items);
  count : length l.buffers.tasks.items ≡ l.place-index;
  space : HasRoomOf l.program l.room;
  kept : KeepsGroupRoom l.fn.buffers l.buffers;
}
