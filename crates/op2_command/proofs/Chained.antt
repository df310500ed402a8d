-- From the parts of the chain of judgements to the answer to the words.
use Rattle.std.proofs.Common.{ℕ, inl, inr, List, [], Option, None, Some, Result, Ok, Err, refl, ap, sym, subst}
use Rattle.op_outside.specs.Outside.{Files}
use Rattle.command_words.specs.Refusal.{CannotRead}
use Rattle.command_words.specs.Lines as lines
use Rattle.command_words.specs.Lines.{refused}
use Rattle.command_words.specs.Words.{Command, WordsAre, names_of, named_by, names_in}
use Rattle.answers.specs.Answers.{without, CommandAnswers, Answers}
use Rattle.answers.specs.Endings.{Tells, Asks}
use Rattle.command_words.specs.declared.answer_lines.call_answer.Answer.{Answer}
use Rattle.command_words.specs.declared.answer_lines.refusals.Failure.{Failure}
use Rattle.command_words.specs.declared.answer_lines.refusals.Failure.TheVariants.{Unread, OutOfMemory}
use Rattle.command_words.specs.declared.answer_lines.refusals.Halt.{Halt}
use Rattle.command_words.specs.declared.answer_lines.refusals.Halt.TheVariants.{Refused, Failed}
use Rattle.command_words.specs.Halts.{refusal_of, answer_of, StopsWhere}
use Rattle.job_inputs.specs.Chains.{Over, AsksFor, AnswersOver}
use Rattle.op2_command.specs.Writes.{CallAnswers}

-- ---- the words

-- what is said of answers over files, where it follows
over_weaker : (told : Option Files) (names : List (List ℕ)) (P Q : Files → lines.Answer → Type 0) (a : lines.Answer)
    → ((files : Files) → P files a → Q files a)
    → Over told names P a
    → Over told names Q a
over_weaker (Some files) names P Q a step h = step files h
over_weaker None names P Q a step h = (h.0, h.1, step h.0 h.2)

weaker : (told : Option Files) (names : List (List ℕ)) (P Q : Files → lines.Answer → Type 0) (rose : Type 0) (r : Result Answer Halt)
    → ((files : Files) (a : lines.Answer) → P files a → Q files a)
    → AnswersOver told names P rose r
    → AnswersOver told names Q rose r
weaker told names P Q rose (Ok a) step h = over_weaker told names P Q (answer_of a) (λ files. step files (answer_of a)) h
weaker told names P Q rose (Err (Refused r)) step h =
    over_weaker told names P Q (refused (refusal_of r)) (λ files. step files (refused (refusal_of r))) h
weaker told names P Q rose (Err (Failed (Unread n))) step h = (
  h.0,
  h.1,
  over_weaker told names (λ files. P (without n.now files)) (λ files. Q (without n.now files)) (refused (CannotRead n.now))
      (λ files. step (without n.now files) (refused (CannotRead n.now))) h.2,
)
weaker told names P Q rose (Err (Failed OutOfMemory)) step h = tt

-- what is an answer over all files is one over those that are told
pub over_all : (told : Option Files) (names : List (List ℕ)) (P : Files → lines.Answer → Type 0) (a : lines.Answer)
    → ((files : Files) → P files a)
    → Over told names P a
over_all (Some files) names P a all = all files
over_all None names P a all = (λ name. Some [], λ k d lt. refl, all (λ name. Some []))

-- the words are refused, whatever the files hold
pub words_refused : (words : List (List ℕ)) (told : Option Files) (rose : Type 0) (h : Halt) → StopsWhere (λ r. WordsAre words (Err r)) h
    → AnswersOver told (named_by words) (Answers words) rose (Err h)
words_refused words told rose (Refused r) s =
    over_all told (named_by words) (Answers words) (refused (refusal_of r)) (λ files. inl (refusal_of r, s, refl))
words_refused words told rose (Failed (Unread n)) s = absurd s
words_refused words told rose (Failed OutOfMemory) s = tt

-- the command's answer is that of its words
pub command_answered : (words : List (List ℕ)) (told : Option Files) (c : Command) (rose : Type 0) (r : Result Answer Halt)
    → WordsAre words (Ok c)
    → AnswersOver told (names_of c) (CommandAnswers c) rose r
    → AnswersOver told (named_by words) (Answers words) rose r
command_answered words told c rose r w h =
    subst (λ ns. AnswersOver told ns (Answers words) rose r) (sym (ap names_in w))
    (weaker told (names_of c) (CommandAnswers c) (Answers words) rose r (λ files a x. inr (c, w, x)) h)

-- the answer that a call tells
pub tells : (words : List (List ℕ)) (told : Option Files) (a : lines.Answer) → Over told (named_by words) (Answers words) a → Tells words told a
tells words (Some files) a h = h
tells words None a h = h

-- the file that it asks for
asks : (words : List (List ℕ)) (told : Option Files) (name : List ℕ) → AsksFor told (named_by words) (Answers words) name → Asks words told name
asks words (Some files) name h = h
asks words None name h = h

pub call_failed : (words : List (List ℕ)) (told : Option Files) (rose : Type 0) (f : Failure)
    → AnswersOver told (named_by words) (Answers words) rose (Err (Failed f))
    → CallAnswers words told rose (Err f)
call_failed words told rose (Unread n) h = (h.0, h.1, asks words told n.now h.2)
call_failed words told rose OutOfMemory h = tt
