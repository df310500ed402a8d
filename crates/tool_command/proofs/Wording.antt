-- From what a command is answered to what the words are.
use Rattle.std.proofs.Common.{◌≡◌, ℕ, inl, inr, List, [], Option, None, Some, Result, Ok, Err, refl}
use Rattle.op_outside.specs.Outside.{Files}
use Rattle.command_words.specs.Refusal.{CannotRead}
use Rattle.command_words.specs.Lines as lines
use Rattle.command_words.specs.Lines.{refused}
use Rattle.command_words.specs.declared.answer_lines.call_answer.Answer.{Answer}
use Rattle.command_words.specs.declared.answer_lines.refusals.Failure.{Failure}
use Rattle.command_words.specs.declared.answer_lines.refusals.Failure.TheVariants.{Unread, OutOfMemory}
use Rattle.command_words.specs.declared.answer_lines.refusals.Halt.{Halt}
use Rattle.command_words.specs.declared.answer_lines.refusals.Halt.TheVariants.{Refused, Failed}
use Rattle.command_words.specs.Halts.{refusal_of, answer_of}
use Rattle.answers.specs.Answers.{without}
use Rattle.job_inputs.specs.Chains.{Over, AnswersOver}
use Rattle.tool_words.specs.Words.{Command, WordsAre}
use Rattle.tool_command.specs.ToolAnswers.{CommandAnswers, words_refused}
use Rattle.tool_command.specs.Endings.{Tells, Asks, AnswersWords, CallAnswers, names_of}

-- what is an answer over all files is one over those that are told
pub over_all : (told : Option Files) (names : List (List ℕ)) (P : Files → lines.Answer → Type 0) (a : lines.Answer)
    → ((files : Files) → P files a)
    → Over told names P a
over_all (Some files) names P a all = all files
over_all None names P a all = (λ name. Some [], λ k d lt. refl, all (λ name. Some []))

module _ (words : List (List ℕ)) where
  -- what a command that the words ask for is answered, they are
  tells : (told : Option Files) (c : Command) (a : lines.Answer) → WordsAre words (Some c) → Over told (names_of c) (CommandAnswers c) a → Tells words told a
  tells (Some files) c a w h = inr (c, w, h)
  tells None c a w h = (names_of c, inr (c, w, refl), h.0, h.1, inr (c, w, h.2))

  asks : (told : Option Files) (c : Command) (name : List ℕ) → WordsAre words (Some c)
      → Over told (names_of c) (λ files a. CommandAnswers c (without name files) a) (refused (CannotRead name))
      → Asks words told name
  asks (Some files) c name w h = inr (c, w, h)
  asks None c name w h = (names_of c, inr (c, w, refl), h.0, h.1, inr (c, w, h.2))

  pub command_answered : (told : Option Files) (c : Command) (rose : Type 0) (r : Result Answer Halt)
      → WordsAre words (Some c)
      → AnswersOver told (names_of c) (CommandAnswers c) rose r
      → AnswersWords words told rose r
  command_answered told c rose (Ok a) w h = tells told c (answer_of a) w h
  command_answered told c rose (Err (Refused r)) w h = tells told c (refused (refusal_of r)) w h
  command_answered told c rose (Err (Failed (Unread n))) w h = (h.0, (names_of c, inr (c, w, refl), h.1), asks told c n.now w h.2)
  command_answered told c rose (Err (Failed OutOfMemory)) w h = tt

  -- words that are refused name no file
  pub refused_words : (told : Option Files) (a : lines.Answer) → WordsAre words None → a ≡ words_refused → Tells words told a
  refused_words (Some files) a w e = inl (w, e)
  refused_words None a w e = ([], inl (w, refl), (λ name. Some []), (λ k d lt. refl), inl (w, e))

  -- what failed before there is an answer
  pub call_failed : (told : Option Files) (rose : Type 0) (f : Failure) → AnswersWords words told rose (Err (Failed f)) → CallAnswers words told rose (Err f)
  call_failed told rose (Unread n) h = h
  call_failed told rose OutOfMemory h = tt
