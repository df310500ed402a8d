-- Enough room for what the steps of a list need on their way.
use Rattle.std.specs.Prelude.{◌≤◌, ℕ, All, length, vec_capacity}
use Rattle.rank_program.specs.declared.program.DistributedProgram.{DistributedProgram}
use Rattle.rank_program.specs.Sound.{tables_in}
use Rattle.rank_program.specs.Rooms.{HasRoom}
use Rattle.rank_exec.specs.declared.run_room.RunRoom.{RunRoom}
use Rattle.rank_machine.specs.declared.ranks.RankPart.{RankPart}
use Rattle.rank_exec.specs.Tasks.{HasGroupRoom}

-- as many begins as a group has at most
abbrev pub most_begins : ℕ
most_begins = 1024

-- enough for a step, for a group, and for a round
pub record HasRunRoom (spans locals constants stride : ℕ) (room : RunRoom) : Type 0 where
  pub step_fits : HasRoom spans locals constants room.step
  pub places_fit : most_begins ≤ vec_capacity room.places
  pub group_fits : HasGroupRoom most_begins stride locals room.group
  pub parts_fit : All (λ (x : RankPart). HasRoom spans locals constants x.room) room.round.parts.items

-- for each list of steps of the program
abbrev pub HasRunRoomOf : DistributedProgram → RunRoom → Type 0
HasRunRoomOf c = HasRunRoom c.tables.spans c.locals (length (tables_in c).constants) (tables_in c).stride
