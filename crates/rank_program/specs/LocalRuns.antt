-- Runs of a loop's elements on a rank's own cells: what they ask of the loop, and what is lent to them.
use Rattle.std.specs.Prelude.{◌≡◌, ◌+◌, length, take}
use Rattle.kernel_model.specs.declared.types.faults.KernelFault.{KernelFault}
use Rattle.rank_state.specs.Stops.{stop_in}
use Rattle.rank_program.specs.declared.local_loops.LocalLoop.{LocalLoop}
use Rattle.rank_program.specs.declared.room.KernelRoom.{KernelRoom}
use Rattle.rank_program.specs.declared.share.RankShare.{RankShare}
use Rattle.rank_program.specs.AloneRuns.{AllBegin, Share}
use Rattle.rank_program.specs.LocalLoops.{VariablesStand}
use Rattle.rank_program.specs.Rooms.{HasKernelRoom}
use Rattle.rank_program.specs.Sound.{setup_in, layout_in, tables_in}

-- it is the same loan: of the same memory and partials, as long as they were
pub record StaysLent (old new : RankShare) : Type 0 where
  pub memory : new.memory.ghost_name ≡ old.memory.ghost_name
  pub partials : new.partials.ghost_name ≡ old.partials.ghost_name
  pub cells : length new.memory.now ≡ length old.memory.now
  pub slots : length new.partials.now ≡ length old.partials.now

module _ (l : LocalLoop) where
  -- the elements at its places begin on the rank
  abbrev pub AllBeginHere : Type 0
  AllBeginHere = AllBegin (setup_in l.program.now) (layout_in l.program.now) (tables_in l.program.now) l.item l.rank l.places.now

  -- the rank's cells are lent with those of the loop's scalars behind them, and its partials
  pub record IsLent (s : RankShare) : Type 0 where
    pub memory : length s.memory.now ≡ l.part.now.cells + length l.scalars.now
    pub partials : length s.partials.now ≡ (tables_in l.program.now).slots

  -- what the rank has of it
  abbrev pub share_in : RankShare → Share KernelFault
  share_in s = record { cells = take l.part.now.cells s.memory.now; partials = s.partials.now; fault = stop_in s.fault }

  -- there is room for an element's run, with places of the arguments on variables
  pub record HasLoopRoom (room : KernelRoom) : Type 0 where
    pub fits : HasKernelRoom l.program.now.locals room
    pub stand : VariablesStand l room.places.items
