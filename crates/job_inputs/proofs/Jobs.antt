-- From a bound program to what is answered of it over the files, for any job on a program; and from the bytes of a file to what is answered
-- of them.
use Rattle.std.proofs.Common.{◌≡◌, ℕ, inl, inr, List, [], ◌∷◌, ◌++◌, Option, Result, Ok, Err, refl, ap, sym, subst, ◌∙◌, append-nil, append_assoc}
use Rattle.op_outside.specs.Outside.{Files}
use Rattle.job_inputs.specs.Readings.{Readings, names_of, readings_of, AreNext, HaveCome, Finds}
use Rattle.mesh_decl.specs.declared.owners.Owners.{Owners}
use Rattle.bound_program.specs.Values.{BoundValue}
use Rattle.bound_program.specs.Fits.{Fits}
use Rattle.command_words.specs.Refusal.{Limit, Refusal}
use Rattle.command_words.specs.Words.{Input, Parting, names_from}
use Rattle.command_words.specs.Lines as lines
use Rattle.command_words.specs.Lines.{refused}
use Rattle.answers.specs.Judgements.{IsHeld, SourceIs, MeshIs, TreeIs, TypesAre, EntriesAre, BoundIs, AccessesAre, PartsOf, OwnersOf}
use Rattle.answers.specs.Answers.{given, BoundAnswers}
use Rattle.command_words.specs.declared.answer_lines.call_answer.Answer.{Answer}
use Rattle.command_words.specs.declared.answer_lines.refusals.Halt.{Halt}
use Rattle.command_words.specs.Halts.{StopsWhere}
use Rattle.job_inputs.specs.Inputs.{IsBoundIn, parts_by}
use Rattle.job_inputs.specs.Chains.{Never, AnswersBy, HaltsOver, AnswersFrom, AnswersOver}
use Rattle.job_inputs.proofs.Chained.{SomeAreSeen, halts_weaker, stops_on, answers_on, answers_by, still_named, names_are, to_whole}

-- ---- from a bound program to its files

-- what follows of answers
pub given_weaker : {A : Type 0} (J : Result A Refusal → Type 0) (f g : A → lines.Answer → Type 0)
    → ((x : A) (a : lines.Answer) → f x a → g x a)
    → (a : lines.Answer)
    → given J f a
    → given J g a
given_weaker J f g step a (inl h) = inl h
given_weaker J f g step a (inr h) = inr (h.0, h.1, step h.0 a h.2)

-- refusals that come before a bound program stay, whatever is answered of it
pub never_weaker : (rest : BoundValue → lines.Answer → Type 0) (input : Input) (files : Files) (a : lines.Answer)
    → BoundAnswers Never input files a
    → BoundAnswers rest input files a
never_weaker rest input files =
    given_weaker (SourceIs input files) _ _ (λ bytes.
    given_weaker (TreeIs bytes) _ _ (λ p.
    given_weaker (TypesAre p) _ _ (λ types.
    given_weaker (MeshIs input files) _ _ (λ text.
    given_weaker (EntriesAre text) _ _ (λ es.
    given_weaker (BoundIs p types es) _ _ (λ b.
    given_weaker (AccessesAre b) _ _ (λ u a h. absurd h)))))))

-- what is answered of a bound program is answered over its files
pub reached : (rest : BoundValue → lines.Answer → Type 0) (input : Input) (b : BoundValue) (files : Files) (a : lines.Answer) → IsBoundIn input b files
    → rest b a
    → BoundAnswers rest input files a
reached rest input b files a h k =
    inr (h.bytes, h.held, inr (h.program, h.read, inr (h.types, h.typed, inr (h.text, h.there, inr (h.over.entries, h.over.spelled, inr (b, h.over.is, inr (tt, h.over.obeyed, k)))))))

-- ---- files that are next

-- the first of them, and those behind it where it has come
pub next_first : (xs ys : List (List ℕ)) (rs : Readings) → AreNext (xs ++ ys) rs → AreNext xs rs
next_first xs ys rs next = (ys ++ next.0, next.1 ∙ append_assoc xs ys next.0)

pub next_then : (xs ys : List (List ℕ)) (old new : Readings) → AreNext (xs ++ ys) old → HaveCome xs old new → AreNext ys new
next_then xs ys old new next come = (next.0, come (ys ++ next.0) (next.1 ∙ append_assoc xs ys next.0))

pub both_come : (xs ys : List (List ℕ)) (old mid new : Readings) → HaveCome xs old mid → HaveCome ys mid new → HaveCome (xs ++ ys) old new
both_come xs ys old mid new come come_too rest e = come_too rest (come (ys ++ rest) (e ∙ append_assoc xs ys rest))

-- ---- the owners of a bound program

module _ (rest : Owners → lines.Answer → Type 0) (ranks : ℕ) (parting : Parting) (b : BoundValue) (fits : Fits b) (told : Option Files) (rose : Type 0) (old : Readings) where
  -- what is answered of owners is answered over the files
  abbrev OwnedAnswers : Files → lines.Answer → Type 0
  OwnedAnswers files a = Fits b × given (PartsOf parting files) (λ parts. given (OwnersOf ranks b parts) rest) a

  pub owned_unread : (h : Halt) → HaltsOver told old (λ files r. PartsOf parting files (Err r)) rose h
      → HaltsOver told old (λ files r. OwnedAnswers files (refused r)) rose h
  owned_unread h k =
      halts_weaker told rose old (λ files r. PartsOf parting files (Err r)) (λ files r. OwnedAnswers files (refused r)) h
      (λ files r i. (fits, inl (r, i, refl))) k

  module _ (mid : Readings) (text : List ℕ) (found : Finds told old mid (λ files. PartsOf parting files (Ok (parts_by parting text)))) where
    pub owned_refused : (h : Halt) → StopsWhere (λ r. OwnersOf ranks b (parts_by parting text) (Err r)) h
        → HaltsOver told old (λ files r. OwnedAnswers files (refused r)) rose h
    owned_refused h s =
        stops_on told rose old mid (λ files. PartsOf parting files (Ok (parts_by parting text))) found
        (λ r. OwnersOf ranks b (parts_by parting text) (Err r)) (λ files r. OwnedAnswers files (refused r)) h
        (λ files r k i. (fits, inr (parts_by parting text, k, inl (r, i, refl)))) s

    pub owned_answered : (u : Owners) (r : Result Answer Halt) → OwnersOf ranks b (parts_by parting text) (Ok u)
        → AnswersBy (rest u) r
        → AnswersFrom told old OwnedAnswers rose r
    owned_answered u r owned h =
        answers_by told rose old mid (λ files. PartsOf parting files (Ok (parts_by parting text))) found (rest u) OwnedAnswers r
        (λ files a k x. (fits, inr (parts_by parting text, k, inr (u, owned, x)))) h

-- ---- one file behind the program

module _ (told : Option Files) (rose : Type 0) (limit : Limit) (name : List ℕ) (Q : List ℕ → lines.Answer → Type 0) (old : Readings) where
  abbrev FileAnswers : Files → lines.Answer → Type 0
  FileAnswers files = given (IsHeld limit name (files name)) Q

  pub file_unread : (h : Halt) → HaltsOver told old (λ files r. IsHeld limit name (files name) (Err r)) rose h
      → HaltsOver told old (λ files r. FileAnswers files (refused r)) rose h
  file_unread h k =
      halts_weaker told rose old (λ files r. IsHeld limit name (files name) (Err r)) (λ files r. FileAnswers files (refused r)) h
      (λ files r i. inl (r, i, refl)) k

  pub file_answered : (mid : Readings) (bytes : List ℕ) (r : Result Answer Halt)
      → Finds told old mid (λ files. IsHeld limit name (files name) (Ok bytes))
      → AnswersBy (Q bytes) r
      → AnswersFrom told old FileAnswers rose r
  file_answered mid bytes r found h =
      answers_by told rose old mid (λ files. IsHeld limit name (files name) (Ok bytes)) found (Q bytes) FileAnswers r
      (λ files a held x. inr (bytes, held, x)) h

-- ---- the answer to what one file holds

module _ (told : Option Files) (rose : Type 0) (limit : Limit) (name : List ℕ) (Q : List ℕ → lines.Answer → Type 0) (some : SomeAreSeen) where
  -- what is answered over the files
  abbrev SoleAnswers : Files → lines.Answer → Type 0
  SoleAnswers files = given (IsHeld limit name (files name)) Q

  pub sole_unread : (h : Halt) → HaltsOver told (readings_of (name ∷ [])) (λ files r. IsHeld limit name (files name) (Err r)) rose h
      → AnswersOver told (name ∷ []) SoleAnswers rose (Err h)
  sole_unread h k =
      to_whole told rose some (name ∷ []) SoleAnswers (Err h)
      (halts_weaker told rose (readings_of (name ∷ [])) (λ files r. IsHeld limit name (files name) (Err r)) (λ files r. SoleAnswers files (refused r)) h
      (λ files r i. inl (r, i, refl)) k)

  pub sole_answered : (bytes : List ℕ) (r : Result Answer Halt)
      → Finds told (readings_of (name ∷ [])) [] (λ files. IsHeld limit name (files name) (Ok bytes))
      → AnswersBy (Q bytes) r
      → AnswersOver told (name ∷ []) SoleAnswers rose r
  sole_answered bytes r found h =
      to_whole told rose some (name ∷ []) SoleAnswers r
      (answers_by told rose (readings_of (name ∷ [])) [] (λ files. IsHeld limit name (files name) (Ok bytes)) found (Q bytes) SoleAnswers r
      (λ files a held x. inr (bytes, held, x)) h)

-- ---- the whole of a job that reads these files behind the program's

module _ (told : Option Files) (rose : Type 0) (Rest : Files → BoundValue → lines.Answer → Type 0) (input : Input) (own : List (List ℕ)) (kept : Readings) where
  abbrev all_names : List (List ℕ)
  all_names = names_from input ++ own

  abbrev All : Files → lines.Answer → Type 0
  All files = BoundAnswers (Rest files) input files

  pub input_next : kept ≡ readings_of all_names → AreNext (names_from input) kept
  input_next e = (own, ap names_of e ∙ names_are all_names)

  pub own_next : (mid : Readings) → kept ≡ readings_of all_names → HaveCome (names_from input) kept mid → AreNext own mid
  unfolding input_next
  own_next mid e come =
      let n = input_next e in
      ([], come n.0 n.1 ∙ sym (append-nil own))

  module _ (some : SomeAreSeen) (is : kept ≡ readings_of all_names) where
    whole : (r : Result Answer Halt) → AnswersFrom told kept All rose r → AnswersOver told all_names All rose r
    whole r h = to_whole told rose some all_names All r (subst (λ rs. AnswersFrom told rs All rose r) is h)

    pub job_halted : (h : Halt) → HaltsOver told kept (λ files r. BoundAnswers Never input files (refused r)) rose h
        → AnswersOver told all_names All rose (Err h)
    job_halted h k =
        whole (Err h)
        (halts_weaker told rose kept (λ files r. BoundAnswers Never input files (refused r)) (λ files r. All files (refused r)) h
        (λ files r. never_weaker (Rest files) input files (refused r)) k)

    pub job_answered : (mid : Readings) (b : BoundValue) (r : Result Answer Halt) → Finds told kept mid (IsBoundIn input b)
        → HaveCome (names_from input) kept mid
        → AnswersFrom told mid (λ files. Rest files b) rose r
        → AnswersOver told all_names All rose r
    job_answered mid b r found come h =
        whole r
        (answers_on told rose kept mid (IsBoundIn input b) found (λ files. Rest files b) All r
        (still_named (names_from input) kept mid (input_next is) come)
        (λ files a bound x. reached (Rest files) input b files a bound x) h)
