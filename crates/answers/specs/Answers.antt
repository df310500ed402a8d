-- What the program answers to its words, over files that are told.
use Rattle.std.specs.Prelude.{◌≡◌, ℕ, Bool, List, ◌++◌, length, Option, Some, None, Result, Ok, Err, ◌⊎◌, codes, if◌then◌else◌}
use Rattle.std.specs.Fmt.{decimal}
use Rattle.std.specs.Str.{bytes_eq}
use Rattle.kernel_model.specs.declared.types.faults.KernelFault.{KernelFault}
use Rattle.schedule_model.specs.Sequential.{Stop}
use Rattle.bound_program.specs.Values.{BoundValue}
use Rattle.bound_program.specs.Fits.{Fits}
use Rattle.mesh_decl.specs.declared.owners.Owners.{Owners}
use Rattle.run_model.specs.Program.{printed, first_fault}
use Rattle.chain_model.specs.Outcomes.{chains_run, chains_text, dump_after}
use Rattle.checkpoint.specs.Laws.{later}
use Rattle.loop_plan.specs.PlanText.{plan_text}
use Rattle.schedule_steps.specs.declared.step.Step.{Step}
use Rattle.schedule_steps.specs.Written.{schedule_text}
use Rattle.bound_plan.specs.Memories.{dump_of, unless_stopped}
use Rattle.op_outside.specs.Outside.{Files}
use Rattle.mesh_decl.specs.declared.text.entry.Form.{Form}
use Rattle.mesh_decl.specs.Canonical.{canonical}
use Rattle.command_words.specs.declared.usage.TheConstants.{USAGE, VERSION}
use Rattle.command_words.specs.Refusal.{Refusal, CannotRead}
use Rattle.command_words.specs.Lines.{Answer, done, refused, faulted}
use Rattle.command_words.specs.Words.{PlanJob, Check, ShowsPlan, ShowsSchedule, RunsPlan, Options, group_of, Input, ChainJob, CountsChains, RunsChains, ChainOptions, Command, OnPlan, OnChains, Converts, Translates, Restores, ShowsUsage, ShowsVersion, WordsAre}
use Rattle.answers.specs.Judgements.{TextIs, SourceIs, TreeIs, TranslationIs, RestorationIs, TypesAre, FileIs, MeshIs, EntriesAre, BoundIs, AccessesAre, CutOf, Chosen, ChosenIs, NumbersOf, PartsOf, OwnersOf, ColouringOf, Planned, PlanIs, OrderOf, outline_of, StepsOf}

-- A judgement, and what comes after it: its refusal ends it, and what it gives goes on.
abbrev pub given : {A : Type 0} → (Result A Refusal → Type 0) → (A → Answer → Type 0) → Answer → Type 0
given {A} judged rest a = ((r : Refusal) × judged (Err r) × (a ≡ refused r)) ⊎ ((x : A) × judged (Ok x) × rest x a)

-- what a run printed, up to its first fault if it has one; its first item has that number in the whole program
abbrev pub ran : (first : ℕ) → Option (Stop KernelFault) → List ℕ → Answer
ran first None bytes = done bytes
ran first (Some x) bytes = faulted bytes (later first x)

-- what running a program prints, whose first item has that number in the whole one: each loop one element after another, up to the first
-- fault if there is one; behind a run without a fault this dump
abbrev pub run_answer : (first : ℕ) → BoundValue → (dump : List ℕ) → Answer
run_answer first b dump = ran first (first_fault b) (unless_stopped (first_fault b) (printed b) dump)

-- The answer over a source and a mesh: seven judgements in this order, and then what is answered of the bound program.
abbrev pub BoundAnswers : (BoundValue → Answer → Type 0) → Input → Files → Answer → Type 0
BoundAnswers rest input files =
    given (SourceIs input files) (λ bytes.
    given (TreeIs bytes) (λ p.
    given (TypesAre p) (λ types.
    given (MeshIs input files) (λ text.
    given (EntriesAre text) (λ es.
    given (BoundIs p types es) (λ b.
    given (AccessesAre b) (λ _. rest b)))))))

-- the sizes of a plan: its items, loops and steps
abbrev pub sizes_text : BoundValue → (steps : ℕ) → List ℕ
sizes_text b steps =
    codes "ok items " ++ decimal (length b.trace) ++ codes " sites " ++ decimal (length b.sites)
    ++ codes " steps " ++ decimal steps ++ codes "\n"

-- What a job on a plan answers, where its steps are taken in this order: the sizes of the plan, its text, the text of the schedule, or
-- what running the program prints, with the dump if it is asked for.
abbrev pub planned_answer : PlanJob → (dumps : Bool) → Chosen → Planned → List Step → Answer
planned_answer Check dumps c p steps = done (sizes_text c.program p.plan.steps)
planned_answer ShowsPlan dumps c p steps = done (plan_text c.program p.distribution.ranks.items p.plan)
planned_answer ShowsSchedule dumps c p steps = done (schedule_text steps)
planned_answer RunsPlan dumps c p steps =
    run_answer c.first c.program (dump_of dumps c.program p.distribution.owners p.distribution.ranks.items p.plan steps)

-- The answer on the plan of a program with these options: five judgements in this order, and then what is answered of the mesh on its ranks
-- and of the plan there.
abbrev pub PlanningAnswers : (Planned → Answer → Type 0) → Options → Files → BoundValue → Answer → Type 0
PlanningAnswers rest o files b =
    given (NumbersOf o b) (λ n.
    given (PartsOf o.parting files) (λ parts.
    given (OwnersOf o.ranks b parts) (λ u.
    given (ColouringOf o.blocks files) (λ colouring.
    given (PlanIs colouring b u n) rest))))

-- The answer of a job on the plan of the items that run: its plan, two judgements, and then what the job answers. Their program fits, as
-- all that is bound does, and its heads and tails do; this stands here since distributions and plans are one where it is so.
abbrev pub ChosenAnswers : PlanJob → Options → Files → Chosen → Answer → Type 0
ChosenAnswers j o files c a =
    Fits c.program
    × PlanningAnswers (λ p.
    given (OrderOf o.schedule files) (λ order.
    given (StepsOf (outline_of c.program p) (group_of o) order) (λ steps x. x ≡ planned_answer j o.dumps c p steps))) o files c.program a

-- The answer of a job on the plan of a bound program, which fits: which of its items run, two judgements, and then what is answered of
-- them.
abbrev pub PlannedAnswers : PlanJob → Options → Files → BoundValue → Answer → Type 0
PlannedAnswers j o files b a = Fits b × given (CutOf o.stretch files) (λ cut. given (ChosenIs cut b) (ChosenAnswers j o files)) a

-- The answer of a job on the plan of a program over a mesh.
abbrev pub PlanAnswers : PlanJob → Options → Input → Files → Answer → Type 0
PlanAnswers j o input files = BoundAnswers (PlannedAnswers j o files) input files

-- What a job on chains answers with these owners: how many there are, and how many messages they send; or what running the program prints,
-- with the dump of the stores if it is asked for.
abbrev pub chain_answer : ChainJob → (dumps : Bool) → BoundValue → Owners → Answer
chain_answer CountsChains dumps b u = done (chains_text b u)
chain_answer RunsChains dumps b u = run_answer 0 b (dump_after b u dumps (chains_run b u) None)

-- The answer of a job on the chains of a bound program: two judgements, and then what the job answers. The program fits, as all that is
-- bound does; this stands here since owners are one where it is so.
abbrev pub ChainAnswers : ChainJob → ChainOptions → Files → BoundValue → Answer → Type 0
ChainAnswers j o files b a =
    Fits b
    × given (PartsOf o.parting files) (λ parts. given (OwnersOf o.ranks b parts) (λ u x. x ≡ chain_answer j o.dumps b u)) a

-- The answer to a mesh in a file that is written again: two judgements, and then the canonical text of its entries in this version.
abbrev pub ConvertAnswers : Form → (mesh : List ℕ) → Files → Answer → Type 0
ConvertAnswers form mesh files =
    given (FileIs mesh files) (λ text.
    given (EntriesAre text) (λ es a. a ≡ done (canonical form es)))

-- The answer to a source in a file that is translated: three judgements, and then its translation.
abbrev pub TranslateAnswers : (source : List ℕ) → Files → Answer → Type 0
TranslateAnswers source files =
    given (TextIs source files) (λ bytes.
    given (TreeIs bytes) (λ p.
    given (TranslationIs bytes p) (λ out a. a ≡ done out)))

-- The answer to a source in a file that is restored: two judgements, and then its restoration.
abbrev pub RestoreAnswers : (source : List ℕ) → Files → Answer → Type 0
RestoreAnswers source files =
    given (TextIs source files) (λ bytes.
    given (RestorationIs bytes) (λ out a. a ≡ done out))

-- the answer of a command
abbrev pub CommandAnswers : Command → Files → Answer → Type 0
CommandAnswers (OnPlan j o input) files = PlanAnswers j o input files
CommandAnswers (OnChains j o input) files = BoundAnswers (ChainAnswers j o files) input files
CommandAnswers (Converts form mesh) files = ConvertAnswers form mesh files
CommandAnswers (Translates source) files = TranslateAnswers source files
CommandAnswers (Restores source) files = RestoreAnswers source files
CommandAnswers ShowsUsage files = λ a. a ≡ done USAGE.now
CommandAnswers ShowsVersion files = λ a. a ≡ done VERSION.now

-- The answer to the words.
abbrev pub Answers : List (List ℕ) → Files → Answer → Type 0
Answers words files = given (WordsAre words) (λ c. CommandAnswers c files)

-- the files without the one of this name
abbrev pub without : List ℕ → Files → Files
without name files other = if bytes_eq other name then None else files other

-- This file comes to be read: were it missing, the answer would say so.
abbrev pub ComesToBeRead : List (List ℕ) → Files → List ℕ → Type 0
ComesToBeRead words files name = Answers words (without name files) (refused (CannotRead name))
