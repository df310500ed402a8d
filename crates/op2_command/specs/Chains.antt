-- The chain of judgements from a bound program on, as the code goes along it: what is answered from each of its parts on.
use Rattle.std.specs.Prelude.{◌≡◌, ℕ, List, Option, Some, None}
use Rattle.op_outside.specs.Outside.{Files}
use Rattle.mesh_decl.specs.declared.text.entry.Form.{Form}
use Rattle.mesh_decl.specs.Canonical.{canonical}
use Rattle.schedule_steps.specs.declared.text.lines.Line.{Line}
use Rattle.step_judge.specs.declared.refusal.ScheduleRefusal.{ScheduleRefusal}
use Rattle.step_judge.specs.declared.refusal.ScheduleRefusal.TheVariants as taking
use Rattle.bound_program.specs.Values.{bound_of}
use Rattle.loop_plan.specs.Planned.{PlannedValue}
use Rattle.command_words.specs.Refusal.{Refusal}
use Rattle.command_words.specs.Lines as lines
use Rattle.command_words.specs.Words.{PlanJob, Options, group_of}
use Rattle.answers.specs.Said.{SaysStep, SaysEnd}
use Rattle.answers.specs.Judgements.{TreeIs, TranslationIs, RestorationIs, EntriesAre, Chosen, Planned, Order, OrderOf, outline_of, StepsOf}
use Rattle.answers.specs.Answers.{given, planned_answer}

-- ---- parts of the chain

-- the program whose items run, of which the first has that number in the whole program
abbrev pub chosen_in : ℕ → PlannedValue → Chosen
chosen_in first p = record { program = bound_of p.bound; first = first }

-- what is answered of a plan, where its steps come from this
abbrev pub StepsAnswers : PlanJob → Options → Chosen → Planned → Order → lines.Answer → Type 0
StepsAnswers j o c p order = given (StepsOf (outline_of c.program p) (group_of o) order) (λ steps a. a ≡ planned_answer j o.dumps c p steps)

-- what is answered of a plan
abbrev pub ScheduleAnswers : PlanJob → Options → Chosen → Planned → Files → lines.Answer → Type 0
ScheduleAnswers j o c p files = given (OrderOf o.schedule files) (StepsAnswers j o c p)

-- what is answered over the text of a mesh that is written again
abbrev pub RewriteAnswers : Form → List ℕ → lines.Answer → Type 0
RewriteAnswers form text = given (EntriesAre text) (λ es a. a ≡ lines.done (canonical form es))

-- what is answered to the bytes of a source that is translated
abbrev pub TextTranslates : List ℕ → lines.Answer → Type 0
TextTranslates bytes = given (TreeIs bytes) (λ p. given (TranslationIs bytes p) (λ out a. a ≡ lines.done out))

-- what is answered to the bytes of a source that is restored
abbrev pub TextRestores : List ℕ → lines.Answer → Type 0
TextRestores bytes = given (RestorationIs bytes) (λ out a. a ≡ lines.done out)

-- at a step, or at the end of a schedule, such a refusal comes: only at its end a step is left
abbrev pub CanRefuse : Option Line → ScheduleRefusal → Type 0
CanRefuse None (taking.Incomplete t) = Unit {0}
CanRefuse None e = ⊥
CanRefuse (Some l) (taking.Incomplete t) = ⊥
CanRefuse (Some l) e = Unit {0}

-- of what comes first, or of the end, in the list of a schedule's steps
abbrev pub SaysFirst : Option Line → (end : ℕ) → ScheduleRefusal → Refusal → Type 0
SaysFirst None end e r = SaysEnd end e r
SaysFirst (Some l) end e r = SaysStep l e r
