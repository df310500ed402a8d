-- From the items that run to what is answered of them.
use Rattle.std.proofs.Common.{◌≡◌, ℕ, inl, inr, List, ◌++◌, Option, Result, Ok, Err, refl, ap, subst, ◌∙◌, append_assoc}
use Rattle.op_outside.specs.Outside.{Files}
use Rattle.job_inputs.specs.Readings.{Readings, AreNext, HaveCome, Finds}
use Rattle.bound_program.specs.Values.{BoundValue}
use Rattle.bound_program.specs.Fits.{Fits}
use Rattle.command_words.specs.Lines as lines
use Rattle.command_words.specs.Lines.{refused}
use Rattle.command_words.specs.Words.{PlanJob, Options, names_before, names_by, names_in_blocks, names_at}
use Rattle.answers.specs.Judgements.{CutOf, Chosen, ChosenIs}
use Rattle.answers.specs.Answers.{ChosenAnswers, PlannedAnswers}
use Rattle.command_words.specs.declared.answer_lines.call_answer.Answer.{Answer}
use Rattle.command_words.specs.declared.answer_lines.refusals.Halt.{Halt}
use Rattle.command_words.specs.Halts.{StopsWhere}
use Rattle.job_inputs.specs.Inputs.{cut_by}
use Rattle.job_inputs.specs.Chains.{HaltsOver, AnswersFrom}
use Rattle.job_inputs.proofs.Public.{halts_weaker, stops_on, answers_on, still_named, next_first, next_then}

-- ---- names that are next

module _ (o : Options) where
  -- those of a partition, a plan and a schedule
  abbrev AreAllNext : Readings → Type 0
  AreAllNext rs = AreNext (names_by o.parting ++ names_in_blocks o.blocks ++ names_at o.schedule) rs

  -- those of a state, and behind it these
  abbrev AreStateNext : Readings → Type 0
  AreStateNext rs = AreNext (names_before o.stretch ++ names_by o.parting ++ names_in_blocks o.blocks ++ names_at o.schedule) rs

  state_first :
      names_before o.stretch ++ names_by o.parting ++ names_in_blocks o.blocks ++ names_at o.schedule
      ≡ names_before o.stretch ++ (names_by o.parting ++ names_in_blocks o.blocks ++ names_at o.schedule)
  state_first =
      ap (λ names. names ++ names_at o.schedule) (append_assoc (names_before o.stretch) (names_by o.parting) (names_in_blocks o.blocks))
      ∙ append_assoc (names_before o.stretch) (names_by o.parting ++ names_in_blocks o.blocks) (names_at o.schedule)

  from_state : (old : Readings) → AreStateNext old → AreNext (names_before o.stretch ++ (names_by o.parting ++ names_in_blocks o.blocks ++ names_at o.schedule)) old
  from_state old next = subst (λ names. AreNext names old) state_first next

  pub state_next : (old : Readings) → AreStateNext old → AreNext (names_before o.stretch) old
  state_next old next = next_first (names_before o.stretch) (names_by o.parting ++ names_in_blocks o.blocks ++ names_at o.schedule) old (from_state old next)

  pub behind_state : (old mid : Readings) → AreStateNext old → HaveCome (names_before o.stretch) old mid → AreAllNext mid
  behind_state old mid next come =
      next_then (names_before o.stretch) (names_by o.parting ++ names_in_blocks o.blocks ++ names_at o.schedule) old mid (from_state old next) come

-- ---- the items that run

module _ (j : PlanJob) (o : Options) (b : BoundValue) (fits : Fits b) (told : Option Files) (rose : Type 0) (old : Readings) where
  abbrev All : Files → lines.Answer → Type 0
  All files = PlannedAnswers j o files b

  pub state_unread : (h : Halt) → HaltsOver told old (λ files r. CutOf o.stretch files (Err r)) rose h
      → HaltsOver told old (λ files r. All files (refused r)) rose h
  state_unread h k =
      halts_weaker told rose old (λ files r. CutOf o.stretch files (Err r)) (λ files r. All files (refused r)) h
      (λ files r i. (fits, inl (r, i, refl))) k

  module _ (mid : Readings) (text : List ℕ) (found : Finds told old mid (λ files. CutOf o.stretch files (Ok (cut_by o.stretch text)))) where
    pub unchosen : (h : Halt) → StopsWhere (λ r. ChosenIs (cut_by o.stretch text) b (Err r)) h
        → HaltsOver told old (λ files r. All files (refused r)) rose h
    unchosen h s =
        stops_on told rose old mid (λ files. CutOf o.stretch files (Ok (cut_by o.stretch text))) found
        (λ r. ChosenIs (cut_by o.stretch text) b (Err r)) (λ files r. All files (refused r)) h
        (λ files r k i. (fits, inr (cut_by o.stretch text, k, inl (r, i, refl)))) s

    pub chosen_answered : (c : Chosen) (r : Result Answer Halt) → ChosenIs (cut_by o.stretch text) b (Ok c)
        → AreStateNext o old
        → HaveCome (names_before o.stretch) old mid
        → AnswersFrom told mid (λ files. ChosenAnswers j o files c) rose r
        → AnswersFrom told old All rose r
    chosen_answered c r chosen next come h =
        answers_on told rose old mid (λ files. CutOf o.stretch files (Ok (cut_by o.stretch text))) found (λ files. ChosenAnswers j o files c) All r
        (still_named (names_before o.stretch) old mid (state_next o old next) come)
        (λ files a k x. (fits, inr (cut_by o.stretch text, k, inr (c, chosen, x)))) h
