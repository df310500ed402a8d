-- How a call of `op2-tools` ends, and what stands on `out` and `err` then.
use Rattle.std.specs.Prelude.{◌≡◌, ℕ, ◌⊎◌, List, [], ◌∷◌, ◌++◌, All, Option, Some, None, Result, Ok, Err}
use Rattle.std.specs.List.{Contains}
use Rattle.op_outside.specs.Outside.{Files, Rose, appended, AppendsFront}
use Rattle.command_words.specs.Lines.{Answer, refused}
use Rattle.command_words.specs.Halts.{answer_of, refusal_of}
use Rattle.command_words.specs.declared.answer_lines.refusals.Halt.{Halt}
use Rattle.command_words.specs.declared.answer_lines.refusals.Halt.TheVariants.{Refused, Failed}
use Rattle.command_words.specs.declared.answer_lines.call_answer.Answer.{Answer as Given}
use Rattle.command_words.specs.declared.answer_lines.refusals.Failure.{Failure}
use Rattle.command_words.specs.declared.answer_lines.refusals.Failure.TheVariants as failure
use Rattle.answers.specs.Endings.{Ending, Answered, OutOfMemory, Unread, Unwritten, Call, ending_status, ending_line, HoldAll, IsReported, IsWritten}
use Rattle.command_words.specs.Words.{Options, names_by, names_in_blocks, named_by}
use Rattle.tool_words.specs.Words.{ProgramJob, Picks, Graphs, TakesOwners, PlanJob, TellsOwners, Counts, Draws, Grids, Command, OnProgram, OnPlan, Converts, Explains, ShowsUsage, ShowsVersion, WordsAre}
use Rattle.tool_command.specs.ToolAnswers.{ToolAnswers, ComesToBeRead}

-- ---- the files that words name

-- those that a job reads behind the source and the mesh
abbrev pub names_for : ProgramJob → List (List ℕ)
names_for (Picks output file earlier) = output ∷ []
names_for (Graphs map) = []
names_for (TakesOwners ranks file set) = file ∷ []

-- the file of an output, where one is named
abbrev pub output_names : Option (List ℕ) → List (List ℕ)
output_names None = []
output_names (Some output) = output ∷ []

-- those that a job on a plan reads behind the files of its options
abbrev pub names_for_plan : PlanJob → List (List ℕ)
names_for_plan TellsOwners = []
names_for_plan (Counts plain) = []
names_for_plan (Draws picture) = []
names_for_plan (Grids picture output) = output_names output

-- those that come behind the source and the mesh: the options', and the job's own
abbrev pub names_behind : PlanJob → Options → List (List ℕ)
names_behind job o = (names_by o.parting ++ names_in_blocks o.blocks) ++ names_for_plan job

-- those of a command, in the order in which they are read
abbrev pub names_of : Command → List (List ℕ)
names_of (OnProgram job source mesh) = (source ∷ mesh ∷ []) ++ names_for job
names_of (OnPlan job o source mesh) = (source ∷ mesh ∷ []) ++ names_behind job o
names_of (Converts file dim scale writes_source) = file ∷ []
names_of (Explains call) = named_by call
names_of ShowsUsage = []
names_of ShowsVersion = []

-- words name this list of files: that of what they ask for, or none
abbrev pub NamedBy : List (List ℕ) → List (List ℕ) → Type 0
NamedBy words names = (WordsAre words None × (names ≡ [])) ⊎ ((c : Command) × WordsAre words (Some c) × (names ≡ names_of c))

-- each list of files that the words name can be asked for
abbrev pub AreLent : (List ℕ → Type 0) → List (List ℕ) → Type 0
AreLent lends words = (names : List (List ℕ)) → NamedBy words names → All lends names

-- ---- what the answer is

-- The words have this answer over the files that are told; where none are, over some that hold every file that the words name.
abbrev pub Tells : List (List ℕ) → Option Files → Answer → Type 0
Tells words (Some files) a = ToolAnswers words files a
Tells words None a =
    (names : List (List ℕ)) × NamedBy words names × (files : Files) × HoldAll names files × ToolAnswers words files a

-- This file comes to be read, over the files that are told; where none are, over some that hold every other file that the words name.
abbrev pub Asks : List (List ℕ) → Option Files → List ℕ → Type 0
Asks words (Some files) name = ComesToBeRead words files name
Asks words None name =
    (names : List (List ℕ)) × NamedBy words names × (files : Files) × HoldAll names files × ComesToBeRead words files name

-- the words name this file
abbrev pub Names : List (List ℕ) → List ℕ → Type 0
Names words name = (names : List (List ℕ)) × NamedBy words names × Contains names name

-- ---- endings

-- Each ending has its cause, and what it leaves on `out`. Want of memory alone is free.
abbrev pub EndsBy : Call → Ending → Type 0
EndsBy c (Answered a) = Tells c.words c.told a × (c.out.1 ≡ appended c.out.0 a.out)
EndsBy c OutOfMemory = c.out.1 ≡ c.out.0
EndsBy c (Unread name) = Rose c.reads.0 c.reads.1 × Names c.words name × Asks c.words c.told name × (c.out.1 ≡ c.out.0)
EndsBy c (Unwritten a) = Rose c.writes.0 c.writes.1 × Tells c.words c.told a × IsWritten a × AppendsFront c.out.0 a.out c.out.1

-- The call ends with this status: it has one of the endings, with its cause, its status and its line.
pub record Ends (c : Call) (status : ℕ) : Type 0 where
  pub ending : Ending
  pub is : status ≡ ending_status ending
  pub cause : EndsBy c ending
  pub report : IsReported c (ending_line ending)

-- ---- on the way there

-- the words have this answer, or this refusal as one, over the files that are told; or a file that they ask for could not be read, or
-- memory ran out
abbrev pub AnswersWords : List (List ℕ) → Option Files → (rose : Type 0) → Result Given Halt → Type 0
AnswersWords words told rose (Ok a) = Tells words told (answer_of a)
AnswersWords words told rose (Err (Refused r)) = Tells words told (refused (refusal_of r))
AnswersWords words told rose (Err (Failed (failure.Unread name))) = rose × Names words name.now × Asks words told name.now
AnswersWords words told rose (Err (Failed failure.OutOfMemory)) = Unit {0}

-- the words have this answer over the files that are told; or a file that they ask for could not be read, or memory ran out
abbrev pub CallAnswers : List (List ℕ) → Option Files → (rose : Type 0) → Result Given Failure → Type 0
CallAnswers words told rose (Ok a) = Tells words told (answer_of a)
CallAnswers words told rose (Err (failure.Unread name)) = rose × Names words name.now × Asks words told name.now
CallAnswers words told rose (Err failure.OutOfMemory) = Unit {0}
