-- From a bound program to what is answered over its files.
use Rattle.std.proofs.Common.{◌≡◌, ℕ, List, [], ◌++◌, Option, Result, Err, ap, sym, subst, ◌∙◌, append_assoc}
use Rattle.std.proofs.lemmas.List.{append-nil}
use Rattle.op_outside.specs.Outside.{Files}
use Rattle.job_inputs.specs.Readings.{Readings, names_of, readings_of, AreNext, HaveCome, Finds}
use Rattle.bound_program.specs.Values.{BoundValue}
use Rattle.command_words.specs.Lines.{refused}
use Rattle.command_words.specs.Words.{PlanJob, Options, Input, names_from, names_before, names_by, names_in_blocks, names_at}
use Rattle.answers.specs.Answers.{BoundAnswers, PlannedAnswers, PlanAnswers}
use Rattle.command_words.specs.declared.answer_lines.call_answer.Answer.{Answer}
use Rattle.command_words.specs.declared.answer_lines.refusals.Halt.{Halt}
use Rattle.job_inputs.specs.Inputs.{IsBoundIn}
use Rattle.job_inputs.specs.Chains.{Never, HaltsOver, AnswersFrom, AnswersOver}
use Rattle.job_inputs.proofs.Public.{SomeAreSeen, halts_weaker, answers_on, still_named, names_are, to_whole, never_weaker, reached}

-- ---- a job on a plan

module _ (told : Option Files) (rose : Type 0) (j : PlanJob) (o : Options) (input : Input) (kept : Readings) where
  abbrev all_names : List (List ℕ)
  all_names = names_from input ++ names_before o.stretch ++ names_by o.parting ++ names_in_blocks o.blocks ++ names_at o.schedule

  -- those of the options
  abbrev option_names : List (List ℕ)
  option_names = names_before o.stretch ++ names_by o.parting ++ names_in_blocks o.blocks ++ names_at o.schedule

  input_first : all_names ≡ names_from input ++ option_names
  input_first =
      ap (λ names. names ++ names_in_blocks o.blocks ++ names_at o.schedule) (append_assoc (names_from input) (names_before o.stretch) (names_by o.parting))
      ∙ ap (λ names. names ++ names_at o.schedule) (append_assoc (names_from input) (names_before o.stretch ++ names_by o.parting) (names_in_blocks o.blocks))
      ∙ append_assoc (names_from input) (names_before o.stretch ++ names_by o.parting ++ names_in_blocks o.blocks) (names_at o.schedule)

  -- these are to be read
  pub awaited_next : kept ≡ readings_of all_names → AreNext (names_from input) kept
  awaited_next e = (option_names, ap names_of e ∙ (names_are all_names ∙ input_first))

  -- and behind the source and the mesh these
  pub planned_next : (mid : Readings) → kept ≡ readings_of all_names → HaveCome (names_from input) kept mid
      → AreNext option_names mid
  unfolding awaited_next
  planned_next mid e come =
      let n = awaited_next e in
      ([], come n.0 n.1 ∙ sym (append-nil option_names))

  module _ (some : SomeAreSeen) (is : kept ≡ readings_of all_names) where
    whole : (r : Result Answer Halt) → AnswersFrom told kept (PlanAnswers j o input) rose r → AnswersOver told all_names (PlanAnswers j o input) rose r
    whole r h = to_whole told rose some all_names (PlanAnswers j o input) r (subst (λ rs. AnswersFrom told rs (PlanAnswers j o input) rose r) is h)

    pub plan_halted : (h : Halt) → HaltsOver told kept (λ files r. BoundAnswers Never input files (refused r)) rose h
        → AnswersOver told all_names (PlanAnswers j o input) rose (Err h)
    plan_halted h k =
        whole (Err h)
        (halts_weaker told rose kept (λ files r. BoundAnswers Never input files (refused r)) (λ files r. PlanAnswers j o input files (refused r)) h
        (λ files r. never_weaker (PlannedAnswers j o files) input files (refused r)) k)

    pub plan_answered : (mid : Readings) (b : BoundValue) (r : Result Answer Halt) → Finds told kept mid (IsBoundIn input b)
        → HaveCome (names_from input) kept mid
        → AnswersFrom told mid (λ files. PlannedAnswers j o files b) rose r
        → AnswersOver told all_names (PlanAnswers j o input) rose r
    plan_answered mid b r found come h =
        whole r
        (answers_on told rose kept mid (IsBoundIn input b) found (λ files. PlannedAnswers j o files b) (PlanAnswers j o input) r
        (still_named (names_from input) kept mid (awaited_next is) come)
        (λ files a bound x. reached (PlannedAnswers j o files) input b files a bound x) h)
