-- How a call of the program ends, and what stands on `out` and `err` then.
use Rattle.std.specs.Prelude.{◌≡◌, ℕ, ◌⊎◌, List, [], All, Option, Some, None, IsSome, Err, nat_eq, codes, if◌then◌else◌}
use Rattle.std.specs.List.{Contains}
use Rattle.op_outside.specs.Outside.{Files, Rose, appended, AppendsFront}
use Rattle.command_words.specs.Refusal.{Usage, CannotRead, status_of}
use Rattle.command_words.specs.Lines.{Answer, whole_line, line_of}
use Rattle.command_words.specs.declared.answer_lines.refusals.Failure.{Failure}
use Rattle.command_words.specs.declared.answer_lines.refusals.Failure.TheVariants as failure
use Rattle.command_words.specs.Words.{WordsAre, named_by}
use Rattle.answers.specs.Answers.{Answers, ComesToBeRead}
use Rattle.answers.specs.Laws.{SourceLacksTree}

-- An answer; want of memory; a file that could not be read; an answer that could not be written.
pub data Ending : Type 0 where
  Answered : Answer → Ending
  OutOfMemory : Ending
  Unread : (name : List ℕ) → Ending
  Unwritten : Answer → Ending

-- the status of an answer that could not be written: a run with a fault keeps its own
abbrev pub unwritten_status : Answer → ℕ
unwritten_status a = if nat_eq a.status 0 then 4 else a.status

-- the line of an answer that could not be written: a run with a fault keeps its own
abbrev pub unwritten_line : Answer → List ℕ
unwritten_line a = if nat_eq a.status 0 then whole_line (codes "cannot write") else a.line

-- the status that the program ends with
abbrev pub ending_status : Ending → ℕ
ending_status (Answered a) = a.status
ending_status OutOfMemory = 1
ending_status (Unread name) = status_of (CannotRead name)
ending_status (Unwritten a) = unwritten_status a

-- the one line of an ending, or nothing where nothing is wrong
abbrev pub ending_line : Ending → List ℕ
ending_line (Answered a) = a.line
ending_line OutOfMemory = whole_line (codes "out of memory")
ending_line (Unread name) = line_of (CannotRead name)
ending_line (Unwritten a) = unwritten_line a

-- a call that has no answer ends so
abbrev pub ending_of : Failure → Ending
ending_of (failure.Unread name) = Unread name.now
ending_of failure.OutOfMemory = OutOfMemory

-- ---- what is written

-- the bytes of an answer are written where it has status 0 or 9
abbrev pub IsWritten : Answer → Type 0
IsWritten a = (a.status ≡ 0) ⊎ (a.status ≡ 9)

-- The bytes of an answer are written, or their writing failed; and what is said of its line is so.
abbrev pub Writes : Answer → ℕ → (faults : ℕ × ℕ) → (told : Option (List ℕ) × Option (List ℕ)) → (List ℕ → Type 0) → Type 0
Writes a status faults told Said =
    ((status ≡ a.status) × (told.1 ≡ appended told.0 a.out) × Said a.line)
    ⊎ ((status ≡ unwritten_status a)
    × Rose faults.0 faults.1
    × IsWritten a
    × AppendsFront told.0 a.out told.1
    × Said (unwritten_line a))

-- ---- a call

-- The words, and the files that the shelf tells, if it does. The counts of faults of the shelf, of `out` and of `err`, and the
-- bytes that `out` and `err` tell, if they do: each before the call and after it.
pub record Call : Type 0 where
  pub words : List (List ℕ)
  pub told : Option Files
  pub reads : ℕ × ℕ
  pub writes : ℕ × ℕ
  pub reports : ℕ × ℕ
  pub out : Option (List ℕ) × Option (List ℕ)
  pub err : Option (List ℕ) × Option (List ℕ)

-- ---- what the answer is

-- the files hold each of these names
abbrev pub HoldAll : List (List ℕ) → Files → Type 0
HoldAll names files = All (λ name. IsSome (files name)) names

-- The words have this answer over the files that are told. Where none are told, what they hold isn't known; but each has one content in
-- a call, so that there are files which hold every name that the words name, and over which this is the answer.
abbrev pub Tells : List (List ℕ) → Option Files → Answer → Type 0
Tells words (Some files) a = Answers words files a
Tells words None a = (files : Files) × HoldAll (named_by words) files × Answers words files a

-- This file comes to be read, over the files that are told; where none are told, over some which hold every other name that the words name.
abbrev pub Asks : List (List ℕ) → Option Files → List ℕ → Type 0
Asks words (Some files) name = ComesToBeRead words files name
Asks words None name = (files : Files) × HoldAll (named_by words) files × ComesToBeRead words files name

-- ---- the endings

-- Each ending has its cause, and what it leaves on `out`. Want of memory alone is free.
abbrev pub EndsBy : Call → Ending → Type 0
EndsBy c (Answered a) = Tells c.words c.told a × (c.out.1 ≡ appended c.out.0 a.out)
EndsBy c OutOfMemory = c.out.1 ≡ c.out.0
EndsBy c (Unread name) =
    Rose c.reads.0 c.reads.1
    × Contains (named_by c.words) name
    × Asks c.words c.told name
    × (c.out.1 ≡ c.out.0)
EndsBy c (Unwritten a) =
    Rose c.writes.0 c.writes.1
    × Tells c.words c.told a
    × IsWritten a
    × AppendsFront c.out.0 a.out c.out.1

-- `err` gets this line, or, where its count rose, a front of it
abbrev pub IsReported : Call → List ℕ → Type 0
IsReported c line = (c.err.1 ≡ appended c.err.0 line) ⊎ (Rose c.reports.0 c.reports.1 × AppendsFront c.err.0 line c.err.1)

-- The call ends with this status: it has one of the endings, with its cause, its status and its line. No cause names the count of
-- `err`: a line that can't be written changes no status.
pub record Ends (c : Call) (status : ℕ) : Type 0 where
  pub ending : Ending
  pub is : status ≡ ending_status ending
  pub cause : EndsBy c ending
  pub report : IsReported c (ending_line ending)

-- These files tell the answer: they are told, or the words name none.
abbrev pub TellTheAnswer : Call → Files → Type 0
TellTheAnswer c files = (c.told ≡ Some files) ⊎ (named_by c.words ≡ [])

-- The status is that of any answer over files that tell it, unless memory ran out or a count of faults rose. So where nothing is
-- refused and neither count rose, it is 0 without a fault of the run and 9 with one, or 1.
abbrev pub IsComplete : Call → ℕ → Type 0
IsComplete c status =
    (files : Files) (a : Answer)
    → TellTheAnswer c files
    → Answers c.words files a
    → (status ≡ a.status)
    ⊎ (status ≡ 1)
    ⊎ ((status ≡ 3) × Rose c.reads.0 c.reads.1)
    ⊎ ((status ≡ 4) × Rose c.writes.0 c.writes.1)

-- Status 2 comes exactly where the words are refused, unless memory ran out.
pub record IsUsage (c : Call) (status : ℕ) : Type 0 where
  pub only : status ≡ 2 → WordsAre c.words (Err Usage)
  pub where_refused : WordsAre c.words (Err Usage) → (status ≡ 2) ⊎ (status ≡ 1)

-- Status 3 comes only where the count of the shelf rose, or where the files that are told lack a name that the words name.
abbrev pub IsUnread : Call → ℕ → Type 0
IsUnread c status =
    status ≡ 3
    → Rose c.reads.0 c.reads.1
    ⊎ ((files : Files) × (c.told ≡ Some files) × (name : List ℕ) × Contains (named_by c.words) name × (files name ≡ None))

-- What stands on `out`, by an answer over files that tell it: its bytes with status 0; its bytes or, where the count of `out`
-- rose, a front of them with status 9; and a front of those of an answer with status 0 with status 4.
pub record Shows (c : Call) (status : ℕ) (a : Answer) : Type 0 where
  pub whole : status ≡ 0 → c.out.1 ≡ appended c.out.0 a.out
  pub faulty : status ≡ 9 → (c.out.1 ≡ appended c.out.0 a.out) ⊎ (Rose c.writes.0 c.writes.1 × AppendsFront c.out.0 a.out c.out.1)
  pub front : status ≡ 4 → (a.status ≡ 0) × Rose c.writes.0 c.writes.1 × AppendsFront c.out.0 a.out c.out.1

-- the output shows every answer that files which tell the run give to these words
abbrev pub IsShown : Call → ℕ → Type 0
IsShown c status = (files : Files) (a : Answer) → TellTheAnswer c files → Answers c.words files a → Shows c status a

-- What `err` gets, by an answer over files that tell it: with every status but 1, 3 and 4 its line, unless the source has tokens
-- and no tree.
pub record Reports (c : Call) (status : ℕ) (files : Files) (a : Answer) : Type 0 where
  pub line : List ℕ
  pub reported : IsReported c line
  pub of_answer : ¬ (status ≡ 1) → ¬ (status ≡ 3) → ¬ (status ≡ 4) → (line ≡ a.line) ⊎ SourceLacksTree c.words files

-- what `err` has is in line with every answer that files which tell the run give to these words
abbrev pub AreReported : Call → ℕ → Type 0
AreReported c status = (files : Files) (a : Answer) → TellTheAnswer c files → Answers c.words files a → Reports c status files a

-- With every status but 0, 4 and 9 nothing is written to `out`.
abbrev pub IsSilent : Call → ℕ → Type 0
IsSilent c status = ¬ (status ≡ 0) → ¬ (status ≡ 4) → ¬ (status ≡ 9) → c.out.1 ≡ c.out.0
