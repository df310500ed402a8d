-- From the parts of the job to its answer.
use Rattle.std.proofs.Common.{◌≡◌, ℕ, inl, inr, List, [], Option, Some, None, IsSome, IsSomeAnd, Ok, Err, Result, get_or, refl, ap}
use Rattle.std.proofs.lemmas.Slice.Eq.{bytes_eq-Decides}
use Rattle.std.specs.List.{find}
use Rattle.op_outside.specs.Outside.{Files, Holds}
use Rattle.explanations.specs.Texts.{has_name, all_texts, shown_text}
use Rattle.command_words.specs.Words.{named_by}
use Rattle.command_words.specs.Lines as lines
use Rattle.command_words.specs.Lines.{done, refused}
use Rattle.command_words.specs.Halts.{answer_of, refusal_of}
use Rattle.command_words.specs.declared.answer_lines.call_answer.Answer.{Answer}
use Rattle.command_words.specs.declared.answer_lines.refusals.Halt.{Halt}
use Rattle.command_words.specs.declared.answer_lines.refusals.Halt.TheVariants.{Refused, Failed}
use Rattle.command_words.specs.declared.answer_lines.refusals.Failure.TheVariants.{Unread, OutOfMemory}
use Rattle.answers.specs.Answers.{without}
use Rattle.answers.specs.Endings.{HoldAll}
use Rattle.job_inputs.specs.Chains.{AnswersBy, AnswersOver, Over, AsksFor}
use Rattle.tool_command.specs.Held.{IsAsFound, AreHeld, CannotHold}
use Rattle.tool_command.specs.ExplainAnswers.{title, ExplainsAnswer, ExplainsCall, ExplainAnswers}

-- ---- files that are held

there : (o : Option (List ℕ)) (P : List ℕ → Type 0) → IsSomeAnd o P → IsSome o
there None P h = absurd h
there (Some x) P h = refl

same : (o : Option (List ℕ)) (P : List ℕ → Type 0) → IsSomeAnd o P → IsSomeAnd o (λ v. IsSomeAnd o (IsAsFound v))
same None P h = absurd h
same (Some x) P h = inl refl

-- those that are held are there
all_there : (held : Files) (names : List (List ℕ)) → AreHeld None held names → HoldAll names held
all_there held names h k d lt = there (held (get_or names k d)) (λ v. Holds None (get_or names k d) (IsAsFound v)) (h k d lt)

-- and are as they are found among themselves
all_same : (held : Files) (names : List (List ℕ)) → AreHeld None held names → AreHeld (Some held) held names
all_same held names h k d lt = same (held (get_or names k d)) (λ v. Holds None (get_or names k d) (IsAsFound v)) (h k d lt)

-- what is answered over the files that are held
explained_held : (told : Option Files) (words : List (List ℕ)) (held : Files) (a : lines.Answer)
    → AreHeld told held (named_by words)
    → ExplainsAnswer words held a
    → Over told (named_by words) (ExplainsCall words) a
explained_held (Some files) words held a h e = inr (held, h, e)
explained_held None words held a h e = (held, all_there held (named_by words) h, inr (held, all_same held (named_by words) h, e))

-- the answer to a call, by that over the files that are held
pub call_answered : (told : Option Files) (words : List (List ℕ)) (held : Files) (rose : Type 0) (r : Result Answer Halt)
    → AreHeld told held (named_by words)
    → AnswersBy (ExplainsAnswer words held) r
    → AnswersOver told (named_by words) (ExplainsCall words) rose r
call_answered told words held rose (Ok a) h e = explained_held told words held (answer_of a) h e
call_answered told words held rose (Err (Refused r)) h e = explained_held told words held (refused (refusal_of r)) h e
call_answered told words held rose (Err (Failed (Unread n))) h e = absurd e
call_answered told words held rose (Err (Failed OutOfMemory)) h e = tt

-- ---- a file that can't be held

none_without : (name : List ℕ) (files : Files) → without name files name ≡ None
none_without name files = rw ((bytes_eq-Decides name name).1 refl) refl

pub call_missing : (told : Option Files) (words : List (List ℕ)) (rose : Type 0) (h : Halt)
    → CannotHold told (named_by words) rose h
    → AnswersOver told (named_by words) (ExplainsCall words) rose (Err h)
call_missing (Some files) words rose (Refused r) c = inl (c.0, c.2, c.3, ap refused c.1)
call_missing None words rose (Refused r) c = absurd c.3
call_missing (Some files) words rose (Failed (Unread n)) c = (c.0, c.1, inl (n.now, c.1, none_without n.now files, refl))
call_missing None words rose (Failed (Unread n)) c =
    (c.0, c.1, (λ name. Some [], λ k d lt. refl, inl (n.now, c.1, none_without n.now (λ name. Some []), refl)))
call_missing told words rose (Failed OutOfMemory) c = tt

-- ---- the whole

-- the text of an error
pub text_answered : (told : Option Files) (words : List (List ℕ)) (t : List ℕ) (a : lines.Answer)
    → find (has_name (title words)) all_texts ≡ Some t
    → a ≡ done (shown_text t)
    → Over told (named_by words) (ExplainAnswers words) a
text_answered (Some files) words t a found is = inl (t, found, is)
text_answered None words t a found is = (λ name. Some [], λ k d lt. refl, inl (t, found, is))

over_call : (told : Option Files) (words : List (List ℕ)) (a : lines.Answer)
    → find (has_name (title words)) all_texts ≡ None
    → Over told (named_by words) (ExplainsCall words) a
    → Over told (named_by words) (ExplainAnswers words) a
over_call (Some files) words a none h = inr (none, h)
over_call None words a none h = (h.0, h.1, inr (none, h.2))

asks_call : (told : Option Files) (words : List (List ℕ)) (name : List ℕ)
    → find (has_name (title words)) all_texts ≡ None
    → AsksFor told (named_by words) (ExplainsCall words) name
    → AsksFor told (named_by words) (ExplainAnswers words) name
asks_call (Some files) words name none h = inr (none, h)
asks_call None words name none h = (h.0, h.1, inr (none, h.2))

-- the answer to a call
pub answered : (told : Option Files) (words : List (List ℕ)) (rose : Type 0) (r : Result Answer Halt)
    → find (has_name (title words)) all_texts ≡ None
    → AnswersOver told (named_by words) (ExplainsCall words) rose r
    → AnswersOver told (named_by words) (ExplainAnswers words) rose r
answered told words rose (Ok a) none h = over_call told words (answer_of a) none h
answered told words rose (Err (Refused r)) none h = over_call told words (refused (refusal_of r)) none h
answered told words rose (Err (Failed (Unread n))) none h = (h.0, h.1, asks_call told words n.now none h.2)
answered told words rose (Err (Failed OutOfMemory)) none h = tt
