-- The chain of judgements up to a bound program, and what a part of the code along it shows.
use Rattle.std.specs.Prelude.{◌≡◌, ℕ, List, [], Option, Some, None, Result, Ok, Err}
use Rattle.std.specs.List.{Contains}
use Rattle.op_outside.specs.Outside.{Files}
use Rattle.job_inputs.specs.Seen.{Seen, Agree, Grows, IsSight}
use Rattle.job_inputs.specs.Readings.{Readings, names_of, IsSeen, Finds}
use Rattle.c_tree.specs.Tree.{ProgramTree}
use Rattle.kernel_model.specs.declared.types.kernels.Resolved.{Resolved}
use Rattle.bound_program.specs.Values.{BoundValue}
use Rattle.command_words.specs.Refusal.{Refusal, CannotRead}
use Rattle.command_words.specs.Lines as lines
use Rattle.command_words.specs.Lines.{refused}
use Rattle.answers.specs.Judgements.{EntriesAre, BoundIs, AccessesAre}
use Rattle.answers.specs.Answers.{given, without}
use Rattle.answers.specs.Endings.{HoldAll}
use Rattle.command_words.specs.declared.answer_lines.call_answer.Answer.{Answer}
use Rattle.command_words.specs.declared.answer_lines.refusals.Failure.TheVariants.{Unread, OutOfMemory}
use Rattle.command_words.specs.declared.answer_lines.refusals.Halt.{Halt}
use Rattle.command_words.specs.declared.answer_lines.refusals.Halt.TheVariants.{Refused, Failed}
use Rattle.command_words.specs.Halts.{answer_of, refusal_of, StopsWhere}

-- ---- parts of the chain

-- what is answered over the text of a mesh, where this is answered of the bound program
abbrev pub TextOver : (BoundValue → lines.Answer → Type 0) → ProgramTree → Resolved → List ℕ → lines.Answer → Type 0
TextOver rest p types text =
    given (EntriesAre text) (λ es. given (BoundIs p types es) (λ b. given (AccessesAre b) (λ _. rest b)))

-- nothing is answered of a bound program, so that all answers are refusals that came before
abbrev pub Never : BoundValue → lines.Answer → Type 0
Never b a = ⊥

-- ---- what a part of the code shows that reads no file

-- an answer of which P is so, or a refusal that P has as an answer, or memory ran out
abbrev pub AnswersBy : (lines.Answer → Type 0) → Result Answer Halt → Type 0
AnswersBy P (Ok a) = P (answer_of a)
AnswersBy P (Err h) = StopsWhere (λ r. P (refused r)) h

-- ---- what a part of the code shows that reads files

-- More is seen then, this file is not, and K is so of all files that are as they were seen and don't hold it.
pub record Misses (told : Option Files) (before : Seen) (name : List ℕ) (K : Files → Type 0) : Type 0 where
  pub after : Seen
  pub grows : Grows before after
  pub sight : IsSight told after
  pub unseen : after name ≡ None
  pub all : (files : Files) → Agree after files → K (without name files)

-- Where these readings were still to come: a refusal that J has over all files that are as they were seen; or one of the files that are
-- still to be read could not be read, and J would refuse it, were it missing; or memory ran out.
abbrev pub HaltsOver : Option Files → Readings → (Files → Refusal → Type 0) → (rose : Type 0) → Halt → Type 0
HaltsOver told rs J rose (Refused r) = Finds told rs [] (λ files. J files (refusal_of r))
HaltsOver told rs J rose (Failed (Unread name)) =
    rose
    × Contains (names_of rs) name.now
    × ((before : Seen) → IsSeen told rs before → Misses told before name.now (λ files. J files (CannotRead name.now)))
HaltsOver told rs J rose (Failed OutOfMemory) = Unit {0}

-- an answer that P has over all files that are as they were seen, or what ends its judgement
abbrev pub AnswersFrom :
    Option Files
    → Readings
    → (Files → lines.Answer → Type 0)
    → (rose : Type 0)
    → Result Answer Halt
    → Type 0
AnswersFrom told rs P rose (Ok a) = Finds told rs [] (λ files. P files (answer_of a))
AnswersFrom told rs P rose (Err h) = HaltsOver told rs (λ files r. P files (refused r)) rose h

-- ---- what the whole shows

-- P is so of the answer over the files that are told; where none are told, over some that hold these names
abbrev pub Over : Option Files → List (List ℕ) → (Files → lines.Answer → Type 0) → lines.Answer → Type 0
Over (Some files) names P a = P files a
Over None names P a = (files : Files) × HoldAll names files × P files a

-- the file of this name is asked for, over the files that are told; where none are told, over some that hold these names
abbrev pub AsksFor : Option Files → List (List ℕ) → (Files → lines.Answer → Type 0) → List ℕ → Type 0
AsksFor told names P name = Over told names (λ files a. P (without name files) a) (refused (CannotRead name))

-- an answer over files with these names, or a refusal as one; or one of them, which is asked for, could not be read; or memory ran out
abbrev pub AnswersOver :
    Option Files
    → List (List ℕ)
    → (Files → lines.Answer → Type 0)
    → (rose : Type 0)
    → Result Answer Halt
    → Type 0
AnswersOver told names P rose (Ok a) = Over told names P (answer_of a)
AnswersOver told names P rose (Err (Refused r)) = Over told names P (refused (refusal_of r))
AnswersOver told names P rose (Err (Failed (Unread name))) = rose × Contains names name.now × AsksFor told names P name.now
AnswersOver told names P rose (Err (Failed OutOfMemory)) = Unit {0}
