-- What a call is answered, and all that is so of its end.
use Rattle.std.specs.Prelude.{ℕ, List, Option, Result, Ok, Err}
use Rattle.std.specs.List.{Contains}
use Rattle.op_outside.specs.Outside.{Files}
use Rattle.command_words.specs.Words.{named_by}
use Rattle.answers.specs.Endings.{Tells, Asks, Call, Ends, IsComplete, IsUsage, IsUnread, IsShown, AreReported, IsSilent}
use Rattle.command_words.specs.declared.answer_lines.call_answer.Answer.{Answer}
use Rattle.command_words.specs.declared.answer_lines.refusals.Failure.{Failure}
use Rattle.command_words.specs.declared.answer_lines.refusals.Failure.TheVariants.{Unread, OutOfMemory}
use Rattle.command_words.specs.Halts.{answer_of}

-- the words have this answer over the files that are told; or a file that they ask for could not be read, or memory ran out
abbrev pub CallAnswers : List (List ℕ) → Option Files → (rose : Type 0) → Result Answer Failure → Type 0
CallAnswers words told rose (Ok a) = Tells words told (answer_of a)
CallAnswers words told rose (Err (Unread name)) = rose × Contains (named_by words) name.now × Asks words told name.now
CallAnswers words told rose (Err OutOfMemory) = Unit {0}

-- The call ends with this status as it is defined, and what follows of that: its status, its output and its line are those of any
-- answer over files that tell it, as far as nothing failed outside.
pub record EndsAsDefined (c : Call) (status : ℕ) : Type 0 where
  pub ends : Ends c status
  pub complete : IsComplete c status
  pub usage : IsUsage c status
  pub unread : IsUnread c status
  pub shown : IsShown c status
  pub reported : AreReported c status
  pub silent : IsSilent c status
