-- The files that the words of `op2` name, in the code and in the definitions.
use Rattle.std.specs.Prelude.{ℕ, Bool, true, false, List, Option, Some, None, Result, Ok, Err, map, option_map}
use Rattle.clap.specs.Simple.{matches_of}
use Rattle.clap.specs.Faults.{fault_of}
use Rattle.command_words.specs.Refusal.{Refusal}
use Rattle.command_words.specs.Words.{Input, InFiles, OfSample, command, judged, Stretch, Whole, Before, From, Command, OnPlan, OnChains, Converts, Translates, Restores, ShowsUsage, ShowsVersion}
use Rattle.command_words.specs.Values as values
use Rattle.tool_command.specs.declared.explain.named.Program.{Program}
use Rattle.tool_command.specs.declared.explain.named.Named.{Named}

-- the file that a source comes from, if it comes from one
abbrev pub source_from : Input → Option (List ℕ)
source_from (InFiles source mesh) = Some source
source_from (OfSample side) = None

-- that of a command
abbrev pub source_of : Command → Option (List ℕ)
source_of (OnPlan j o input) = source_from input
source_of (OnChains j o input) = source_from input
source_of (Converts form mesh) = None
source_of (Translates source) = Some source
source_of (Restores source) = Some source
source_of ShowsUsage = None
source_of ShowsVersion = None

-- that of words
abbrev pub source_in : Result Command Refusal → Option (List ℕ)
source_in (Ok c) = source_of c
source_in (Err r) = None

-- the file that the source of the words comes from, if it comes from one
abbrev pub source_by : List (List ℕ) → Option (List ℕ)
source_by words = source_in (judged (fault_of command words) (matches_of command words))

-- whether a run begins where the program does
abbrev pub is_from_start : Stretch → Bool
is_from_start Whole = true
is_from_start (Before item) = true
is_from_start (From name) = false

-- a program over a mesh that words ask for: where the two come from, and whether its run begins where it does
pub record ProgramNamed : Type 0 where
  pub input : Input
  pub from_start : Bool

-- that of a command, if it asks for one
abbrev pub program_of : Command → Option ProgramNamed
program_of (OnPlan j o input) = Some (record { input = input; from_start = is_from_start o.stretch })
program_of (OnChains j o input) = Some (record { input = input; from_start = true })
program_of (Converts form mesh) = None
program_of (Translates source) = None
program_of (Restores source) = None
program_of ShowsUsage = None
program_of ShowsVersion = None

-- that of words
abbrev pub program_in : Result Command Refusal → Option ProgramNamed
program_in (Ok c) = program_of c
program_in (Err r) = None

-- the program over a mesh that the words ask for, if they ask for one
abbrev pub program_by : List (List ℕ) → Option ProgramNamed
program_by words = program_in (judged (fault_of command words) (matches_of command words))

-- ---- in the code

-- the names of files
abbrev pub names_in : Named → List (List ℕ)
names_in n = map (λ name. name.now) n.files.items

-- the program over a mesh
abbrev pub named_program : Program → ProgramNamed
named_program p = record { input = values.input_in p.input; from_start = p.from_start }

-- the program that is named, if one is
abbrev pub program_named : Named → Option ProgramNamed
program_named n = option_map named_program n.program

-- the name of the source
abbrev pub source_name : Named → Option (List ℕ)
source_name n = option_map (λ name. name.now) n.source
