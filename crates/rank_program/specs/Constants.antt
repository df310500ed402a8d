-- Loops that leave the constants of kernels.
use Rattle.std.specs.Prelude.{◌≢◌, ◌≡◌, ◌<◌, ℕ, Bool, true, false, List, length, get_or}
use Rattle.rank_layout.specs.Made.{row_of}
use Rattle.rank_program.specs.declared.program.DistributedProgram.{DistributedProgram}
use Rattle.rank_program.specs.Sound.{Sound}

-- no number is in both lists
abbrev pub Apart : List ℕ → List ℕ → Type 0
Apart xs ys = (i j : ℕ) → i < length xs → j < length ys → get_or xs i 0 ≢ get_or ys j 0

-- none of the loop's arguments is on a cell of a constant
abbrev pub ConstantsStay : DistributedProgram → ℕ → Type 0
ConstantsStay c s = Apart (row_of c.tables.indices.items s) c.tables.constants.items

-- the program can be run, and by loop it is known which leave the constants
pub record IsRunnable (c : DistributedProgram) (stay : List Bool) : Type 0 where
  pub sound : Sound c
  pub leave : (s : ℕ) → get_or stay s false ≡ true → ConstantsStay c s
