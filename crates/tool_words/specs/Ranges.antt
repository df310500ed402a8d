-- The ranges of the numbers that words ask for.
use Rattle.std.specs.Prelude.{◌<◌}
use Rattle.command_words.specs.Laws.{AreFew, AreWithin}
use Rattle.tool_words.specs.Words.{ProgramJob, TakesOwners, Command, OnProgram, OnPlan, Converts}

-- there are 1 to 64 ranks
abbrev pub HasFewRanks : ProgramJob → Type 0
HasFewRanks (TakesOwners ranks file set) = AreFew ranks
HasFewRanks j = Unit {0}

-- the numbers of a command are in range
abbrev pub IsWithin : Command → Type 0
IsWithin (OnProgram job source mesh) = HasFewRanks job
IsWithin (OnPlan job o source mesh) = AreWithin o
IsWithin (Converts file dim scale writes_source) = 0 < scale
IsWithin c = Unit {0}
