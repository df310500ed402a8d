-- Enough room for what steps need on their way.
use Rattle.std.specs.Prelude.{◌≡◌, ◌≤◌, ℕ, length, vec_capacity}
use Rattle.kernel_runs.specs.RowLoops.{HasRowRoom}
use Rattle.rank_program.specs.declared.program.DistributedProgram.{DistributedProgram}
use Rattle.rank_program.specs.declared.room.KernelRoom.{KernelRoom}
use Rattle.rank_program.specs.declared.room.Room.{Room}
use Rattle.rank_program.specs.Sound.{tables_in}

-- as many cells as the arguments of a kernel that runs on a rank's own cells have at most
abbrev pub most_saved : ℕ
most_saved = 1024

-- as many ways as lead from an element of a loop to what its arguments reach at most
abbrev pub most_ways : ℕ
most_ways = 16

-- as many columns as a kernel has at most that runs for a batch of elements at once
abbrev pub most_columns : ℕ
most_columns = 128

-- for kernels with locals of so many cells
pub record HasKernelRoom (locals : ℕ) (room : KernelRoom) : Type 0 where
  pub places_fit : most_ways ≤ room.places.capacity
  pub locals_fit : locals ≤ length room.locals.items
  pub saved_fits : most_saved ≤ length room.saved.items
  pub rows_fit : HasRowRoom most_ways most_columns most_columns room.rows

-- for so many spans, for kernels with locals of so many cells, and for so many constants
pub record HasRoom (spans locals constants : ℕ) (room : Room) : Type 0 where
  pub spans_fit : spans ≤ vec_capacity room.spans
  pub owned_fit : spans ≤ vec_capacity room.owned
  pub kernels_fit : HasKernelRoom locals room.kernels
  pub constants_fit : length room.constants.items ≡ constants

-- for each step of the program
abbrev pub HasRoomOf : DistributedProgram → Room → Type 0
HasRoomOf c = HasRoom c.tables.spans c.locals (length (tables_in c).constants)
