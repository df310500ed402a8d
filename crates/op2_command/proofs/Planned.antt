-- From plans to what is answered of them.
use Rattle.std.proofs.Common.{◌≡◌, ℕ, inl, inr, List, Option, Result, Ok, Err, refl, sym, subst}
use Rattle.op_outside.specs.Outside.{Files}
use Rattle.job_inputs.specs.Readings.{Readings, Finds}
use Rattle.schedule_steps.specs.declared.step.Step.{Step}
use Rattle.schedule_steps.specs.Standard.{standard}
use Rattle.schedule_steps.specs.Drawn.{IsDrawn}
use Rattle.command_words.specs.Refusal.{ScheduleBytes}
use Rattle.command_words.specs.Lines as lines
use Rattle.command_words.specs.Lines.{refused}
use Rattle.command_words.specs.Words.{PlanJob, Standard, Drawn, Written, Options, group_of}
use Rattle.answers.specs.Judgements.{IsHeld, Chosen, Planned, InStandardOrder, BySeed, ByText, OrderOf, outline_of, StepsOf, end_line, IsTextRefused, IsStepRefused}
use Rattle.schedule_steps.specs.declared.text.lines.Line.{Line}
use Rattle.schedule_steps.specs.Reading.{Reads as SchedulesRead}
use Rattle.answers.specs.Answers.{planned_answer}
use Rattle.command_words.specs.declared.answer_lines.call_answer.Answer.{Answer}
use Rattle.command_words.specs.declared.answer_lines.refusals.Halt.{Halt}
use Rattle.command_words.specs.Halts.{StopsWhere, answer_of}
use Rattle.job_inputs.specs.Chains.{AnswersBy, HaltsOver, AnswersFrom}
use Rattle.op2_command.specs.Chains.{StepsAnswers, ScheduleAnswers}
use Rattle.command_words.proofs.Public.{stops_weaker}
use Rattle.job_inputs.proofs.Public.{halts_weaker, answers_by, finds_from}

-- ---- schedules

module _ (j : PlanJob) (o : Options) (c : Chosen) (p : Planned) where
  pub steps_answered : (order : _) (steps : List Step) (a : lines.Answer)
      → StepsOf (outline_of c.program p) (group_of o) order (Ok steps)
      → a ≡ planned_answer j o.dumps c p steps
      → StepsAnswers j o c p order a
  steps_answered order steps a is e = inr (steps, is, e)

  -- a text that spells no steps
  pub text_refused_by : (bytes : List ℕ) (h : Halt) → StopsWhere (IsTextRefused bytes) h → AnswersBy (StepsAnswers j o c p (ByText bytes)) (Err h)
  text_refused_by bytes h s =
      stops_weaker (IsTextRefused bytes) (λ r. StepsAnswers j o c p (ByText bytes) (refused r)) h (λ r k. inl (r, inl k, refl)) s

  -- a step of a text that is refused
  pub step_refused_by : (bytes : List ℕ) (ls : List Line) (end : ℕ) (h : Halt)
      → SchedulesRead bytes (Ok ls)
      → end ≡ end_line bytes
      → StopsWhere (IsStepRefused (outline_of c.program p) ls end) h
      → AnswersBy (StepsAnswers j o c p (ByText bytes)) (Err h)
  step_refused_by bytes ls end h reads e s =
      stops_weaker (IsStepRefused (outline_of c.program p) ls end) (λ r. StepsAnswers j o c p (ByText bytes) (refused r)) h
      (λ r k. inl (r, inr (ls, reads, subst (λ z. IsStepRefused (outline_of c.program p) ls z r) e k), refl)) s

  module _ (told : Option Files) (rose : Type 0) (old : Readings) where
    abbrev P : Files → lines.Answer → Type 0
    P = ScheduleAnswers j o c p

    pub standard_answered : (a : Answer) → o.schedule ≡ Standard
        → answer_of a ≡ planned_answer j o.dumps c p (standard (outline_of c.program p) (group_of o))
        → AnswersFrom told old P rose (Ok a)
    standard_answered a e is =
        finds_from told rose old (λ files. P files (answer_of a))
        (λ files. inr (
          InStandardOrder,
          subst (λ s. OrderOf s files (Ok InStandardOrder)) (sym e) refl,
          inr (standard (outline_of c.program p) (group_of o), refl, is),
        ))

    pub drawn_answered : (a : Answer) (seed : ℕ) (steps : List Step) → o.schedule ≡ Drawn seed
        → IsDrawn (outline_of c.program p) (group_of o) seed steps
        → answer_of a ≡ planned_answer j o.dumps c p steps
        → AnswersFrom told old P rose (Ok a)
    drawn_answered a seed steps e d is =
        finds_from told rose old (λ files. P files (answer_of a))
        (λ files. inr (BySeed seed, subst (λ s. OrderOf s files (Ok (BySeed seed))) (sym e) refl, inr (steps, d, is)))

    pub schedule_unread : (name : List ℕ) (h : Halt) → o.schedule ≡ Written name
        → HaltsOver told old (λ files r. IsHeld ScheduleBytes name (files name) (Err r)) rose h
        → AnswersFrom told old P rose (Err h)
    schedule_unread name h e k =
        halts_weaker told rose old (λ files r. IsHeld ScheduleBytes name (files name) (Err r)) (λ files r. P files (refused r)) h
        (λ files r i. inl (r, subst (λ s. OrderOf s files (Err r)) (sym e) i, refl)) k

    pub text_answered : (name bytes : List ℕ) (new : Readings) (r : Result Answer Halt) → o.schedule ≡ Written name
        → Finds told old new (λ files. IsHeld ScheduleBytes name (files name) (Ok bytes))
        → AnswersBy (StepsAnswers j o c p (ByText bytes)) r
        → AnswersFrom told old P rose r
    text_answered name bytes new r e found h =
        answers_by told rose old new (λ files. IsHeld ScheduleBytes name (files name) (Ok bytes)) found (StepsAnswers j o c p (ByText bytes)) P r
        (λ files a held x. inr (ByText bytes, subst (λ s. OrderOf s files (Ok (ByText bytes))) (sym e) (bytes, held, refl), x)) h
