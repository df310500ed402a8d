-- The judgements, each a relation between what it looks at and what it gives: a value, or its refusal.
use Rattle.std.specs.Prelude.{◌≡◌, ℕ, suc, ◌<◌, ◌≤◌, ◌⊎◌, Bool, List, [], ◌∷◌, ◌++◌, map, length, All, Option, Some, None, Result, Ok, Err}
use Rattle.c_tree.specs.declared.lexer.tokens.Pos.{Pos}
use Rattle.c_tree.specs.Tree.{ProgramTree}
use Rattle.c_tree.specs.Reads.{Reads, Deep}
use Rattle.c_tree.specs.declared.refusals.SourceRefusal.{SourceRefusal}
use Rattle.c_tree.specs.declared.refusals.SourceRefusal.TheVariants as source
use Rattle.c_tree.specs.Refused.{place_at, CanRefuse}
use Rattle.kernel_model.specs.declared.types.kernels.RKernel.{RKernel}
use Rattle.kernel_model.specs.declared.types.kernels.Resolved.{Resolved}
use Rattle.kernel_model.specs.View.{resolved_of}
use Rattle.name_resolution.specs.declared.refusals.TypeRefusal.{TypeRefusal}
use Rattle.name_resolution.specs.Programs.{Resolves}
use Rattle.mesh_decl.specs.declared.text.entry.MeshRefusal.{MeshRefusal}
use Rattle.mesh_decl.specs.Spelling.{Named, Spells, total}
use Rattle.mesh_decl.specs.Reading.{Refuses}
use Rattle.bound_program.specs.declared.refusals.refusals.BindRefusal.{BindRefusal}
use Rattle.bound_program.specs.Values.{BoundValue, SiteValue}
use Rattle.loop_bind.specs.Bound.{bound}
use Rattle.kernel_model.specs.Obeys.{KernelObeys}
use Rattle.kernel_model.specs.Refusals.{Rule, IsRefusal, number_of}
use Rattle.run_model.specs.Kernels.{kernel_at}
use Rattle.run_model.specs.Arguments.{modes_of}
use Rattle.op_outside.specs.Outside.{Files}
use Rattle.mesh_gen.specs.Sample.{sample_source, sample_mesh}
use Rattle.mesh_decl.specs.declared.owners.Owners.{Owners}
use Rattle.mesh_decl.specs.declared.owners.Perms.{Perms}
use Rattle.partition.specs.declared.distribute.types.Distribution.{Distribution}
use Rattle.partition.specs.Parts.{Parts, Text, NumbersRefusal, OwnersRefusal}
use Rattle.partition.specs.Judgements.{NumbersAre, OwnersAre}
use Rattle.partition.specs.Distributions.{IsDistribution}
use Rattle.local_mesh.specs.declared.types.RankMesh.{RankMesh}
use Rattle.checkpoint.specs.Cut.{StateValue, CanCut, head, tail}
use Rattle.checkpoint.specs.Reading.{Says, SaysNone}
use Rattle.loop_plan.specs.Values.{PlanValue}
use Rattle.loop_plan.specs.Proper.{Proper, HasLeastColours}
use Rattle.loop_plan.specs.StepCounts.{program_steps}
use Rattle.loop_plan.specs.StepOutline.{step_outline}
use Rattle.plan_cert.specs.Certified.{Certified, IsRefused}
use Rattle.op_num.specs.Cut.{words}
use Rattle.op_num.specs.Automaton.{last_line}
use Rattle.schedule_steps.specs.Outline.{Outline}
use Rattle.schedule_steps.specs.declared.step.Step.{Step}
use Rattle.schedule_steps.specs.Steps.{has, Accepted}
use Rattle.schedule_steps.specs.Standard.{standard}
use Rattle.schedule_steps.specs.Drawn.{IsDrawn}
use Rattle.schedule_steps.specs.declared.text.lines.Line.{Line}
use Rattle.schedule_steps.specs.declared.text.refusals.ScheduleTextRefusal.{ScheduleTextRefusal}
use Rattle.schedule_steps.specs.Reading.{Reads as SchedulesRead}
use Rattle.step_judge.specs.declared.refusal.ScheduleRefusal.{ScheduleRefusal}
use Rattle.step_judge.specs.Verdicts.{judged, ended}
use Rattle.op_translate.specs.declared.refusals.TransRefusal.{TransRefusal}
use Rattle.op_translate.specs.Translation.{Translates, Restores}
use Rattle.command_words.specs.Words.{Input, InFiles, OfSample, Stretch, Whole, Before, From, Parting, ByRule, ByFile, Blocks, OfSize, AsPlanned, Schedule, Standard, Drawn, Written, Options}
use Rattle.command_words.specs.Refusal.{Limit, SourceBytes, MeshBytes, MeshValues, StateBytes, PartitionBytes, PlanBytes, Steps, ScheduleBytes, Refusal, CannotRead, BadAccess, BadCut, BadState, BadPlan, BeyondLimit}
use Rattle.command_words.specs.Lines.{most}
use Rattle.answers.specs.Said.{SaysSource, SaysTypes, SaysTranslation, SaysMesh, SaysBinding, SaysNumbers, SaysOwners, SaysSchedule, SaysNext}

-- ---- files

-- The bytes of a file are what is held under its name, within the limit.
abbrev pub IsHeld : Limit → List ℕ → Option (List ℕ) → Result (List ℕ) Refusal → Type 0
IsHeld limit name None (Ok bytes) = ⊥
IsHeld limit name None (Err r) = r ≡ CannotRead name
IsHeld limit name (Some held) (Ok bytes) = (bytes ≡ held) × (length held ≤ most limit)
IsHeld limit name (Some held) (Err r) = (r ≡ BeyondLimit limit (suc (most limit))) × (most limit < length held)

-- the bytes of a source in a file
abbrev pub TextIs : List ℕ → Files → Result (List ℕ) Refusal → Type 0
TextIs source files r = IsHeld SourceBytes source (files source) r

-- the bytes of the source
abbrev pub SourceIs : Input → Files → Result (List ℕ) Refusal → Type 0
SourceIs (InFiles source mesh) files r = TextIs source files r
SourceIs (OfSample side) files r = r ≡ Ok sample_source

-- the bytes of a mesh in a file
abbrev pub FileIs : List ℕ → Files → Result (List ℕ) Refusal → Type 0
FileIs mesh files r = IsHeld MeshBytes mesh (files mesh) r

-- the bytes of the mesh
abbrev pub MeshIs : Input → Files → Result (List ℕ) Refusal → Type 0
MeshIs (InFiles source mesh) files r = FileIs mesh files r
MeshIs (OfSample side) files r = r ≡ Ok (sample_mesh side)

-- ---- the source

-- The bytes have no tree of at most 64 levels; where they have a deeper one, they are refused for its depth, at its first token
-- beyond them; and what is said of them is so.
pub record IsUnread (bytes : List ℕ) (e : SourceRefusal) : Type 0 where
  pub none : (p : ProgramTree) → ¬ Reads bytes p
  pub deep : (p : ProgramTree) (n : ℕ) → Deep bytes p n → e ≡ source.TooDeep (place_at p.places bytes n)
  pub cause : CanRefuse bytes e

-- the tree of the source
abbrev pub TreeIs : List ℕ → Result ProgramTree Refusal → Type 0
TreeIs bytes (Ok p) = Reads bytes p
TreeIs bytes (Err r) = (e : SourceRefusal) × IsUnread bytes e × SaysSource e r

-- the program's kernels and constants, wherever they lie in memory, or the refusal of its names and types
abbrev pub TypesAre : ProgramTree → Result Resolved Refusal → Type 0
TypesAre p (Ok types) = Resolves p (Ok (resolved_of types))
TypesAre p (Err r) = (e : TypeRefusal) × Resolves p (Err e) × SaysTypes e r

-- the translation of a source that was read, of which this is the tree
abbrev pub TranslationIs : List ℕ → ProgramTree → Result (List ℕ) Refusal → Type 0
TranslationIs bytes p (Ok out) = Translates bytes p (Ok out)
TranslationIs bytes p (Err r) = (e : TransRefusal) × Translates bytes p (Err e) × SaysTranslation e r

-- the restoration of bytes
abbrev pub RestorationIs : List ℕ → Result (List ℕ) Refusal → Type 0
RestorationIs bytes (Ok out) = Restores bytes (Ok out)
RestorationIs bytes (Err r) = (e : TransRefusal) × Restores bytes (Err e) × SaysTranslation e r

-- ---- the mesh

-- the entries that the mesh text spells
abbrev pub EntriesAre : List ℕ → Result (List Named) Refusal → Type 0
EntriesAre bytes (Ok es) = Spells bytes es × (total es ≤ most MeshValues)
EntriesAre bytes (Err r) = (e : MeshRefusal) × Refuses bytes e × SaysMesh e r

-- ---- both

-- the bound program
abbrev pub BoundIs : ProgramTree → Resolved → List Named → Result BoundValue Refusal → Type 0
BoundIs p types es (Ok b) = bound p types es ≡ Ok b
BoundIs p types es (Err r) = (e : BindRefusal) × (bound p types es ≡ Err e) × SaysBinding p e r

-- the kernel of a loop keeps to the accesses of its arguments
abbrev pub SiteObeys : BoundValue → SiteValue → Type 0
SiteObeys b site = (k : RKernel) → kernel_at b.kernels site.kernel ≡ Some k → KernelObeys k (modes_of b site)

-- the kernel of a loop doesn't: the rule that it breaks at the earliest place, and that place
abbrev pub SiteRefuses : BoundValue → SiteValue → Rule → Pos → Type 0
SiteRefuses b site rule at = (k : RKernel) × (kernel_at b.kernels site.kernel ≡ Some k) × IsRefusal k (modes_of b site) rule at

-- the first of the loops whose kernel doesn't, and its refusal
pub record IsFirstSite (b : BoundValue) (r : Refusal) : Type 0 where
  pub earlier : List SiteValue
  pub site : SiteValue
  pub later : List SiteValue
  pub whole : b.sites ≡ earlier ++ site ∷ later
  pub before : All (SiteObeys b) earlier
  pub rule : Rule
  pub at : Pos
  pub refuses : SiteRefuses b site rule at
  pub says : r ≡ BadAccess (number_of rule) at

-- the kernels of all loops keep to the accesses of their arguments
abbrev pub AccessesAre : BoundValue → Result (Unit {0}) Refusal → Type 0
AccessesAre b (Ok _) = All (SiteObeys b) b.sites
AccessesAre b (Err r) = IsFirstSite b r

-- ---- the items that run

-- what says which items run: all do; those before an item; or those from a state on, which a text tells
pub data Cut : Type 0 where
  Uncut : Cut
  BeforeItem : (item : ℕ) → Cut
  FromText : (bytes : List ℕ) → Cut

-- the cut that is asked for: by the text in a file, or as it is told outright
abbrev pub CutOf : Stretch → Files → Result Cut Refusal → Type 0
CutOf Whole files r = r ≡ Ok Uncut
CutOf (Before item) files r = r ≡ Ok (BeforeItem item)
CutOf (From name) files (Ok cut) = (bytes : List ℕ) × IsHeld StateBytes name (files name) (Ok bytes) × (cut ≡ FromText bytes)
CutOf (From name) files (Err r) = IsHeld StateBytes name (files name) (Err r)

-- the program whose items run, and the number that the first of them has in the whole program
pub record Chosen : Type 0 where
  pub program : BoundValue
  pub first : ℕ

-- of a program the whole, or its head before an item, or its tail from a state on
abbrev pub ChosenIs : Cut → BoundValue → Result Chosen Refusal → Type 0
ChosenIs Uncut b r = r ≡ Ok (record { program = b; first = 0 })
ChosenIs (BeforeItem k) b (Ok c) = CanCut b k × (c ≡ record { program = head b k; first = 0 })
ChosenIs (BeforeItem k) b (Err r) = ¬ CanCut b k × (r ≡ BadCut k)
ChosenIs (FromText bytes) b (Ok c) = (s : StateValue) × Says b bytes s × (c ≡ record { program = tail b s; first = s.item })
ChosenIs (FromText bytes) b (Err r) = (number : ℕ) × (line : ℕ) × SaysNone b bytes number line × (r ≡ BadState number line)

-- ---- ranks

-- new numbers, as they are asked for
abbrev pub NumbersOf : Options → BoundValue → Result Perms Refusal → Type 0
NumbersOf o b (Ok p) = NumbersAre b.mesh o.renumber (Ok p)
NumbersOf o b (Err r) = (e : NumbersRefusal) × NumbersAre b.mesh o.renumber (Err e) × SaysNumbers e r

-- what owners come from: a rule, which is told outright, or the text of a partition in a file
abbrev pub PartsOf : Parting → Files → Result Parts Refusal → Type 0
PartsOf (ByRule rule) files r = r ≡ Ok rule
PartsOf (ByFile name) files (Ok parts) = (bytes : List ℕ) × IsHeld PartitionBytes name (files name) (Ok bytes) × (parts ≡ Text bytes)
PartsOf (ByFile name) files (Err r) = IsHeld PartitionBytes name (files name) (Err r)

-- the owners that come of it, on so many ranks
abbrev pub OwnersOf : (ranks : ℕ) → BoundValue → Parts → Result Owners Refusal → Type 0
OwnersOf ranks b parts (Ok u) = OwnersAre b.mesh ranks parts (Ok u)
OwnersOf ranks b parts (Err r) = (e : OwnersRefusal) × OwnersAre b.mesh ranks parts (Err e) × SaysOwners e r

-- ---- plans

-- what blocks and colours come from: least colours in blocks of so many places, or the text of a plan
pub data Colouring : Type 0 where
  Least : (places : ℕ) → Colouring
  Told : (bytes : List ℕ) → Colouring

-- the blocks and colours that are asked for: by the text in a file, or as they are told outright
abbrev pub ColouringOf : Blocks → Files → Result Colouring Refusal → Type 0
ColouringOf (OfSize places) files r = r ≡ Ok (Least places)
ColouringOf (AsPlanned name) files (Ok c) = (bytes : List ℕ) × IsHeld PlanBytes name (files name) (Ok bytes) × (c ≡ Told bytes)
ColouringOf (AsPlanned name) files (Err r) = IsHeld PlanBytes name (files name) (Err r)

-- these are the blocks and colours of a plan of the program on these ranks
abbrev pub IsColoured : Colouring → BoundValue → List RankMesh → PlanValue → Type 0
IsColoured (Least places) b meshes p = HasLeastColours b meshes p × (p.block ≡ places)
IsColoured (Told bytes) b meshes p = Certified b meshes bytes p

-- a plan of the program on these ranks, with these blocks and colours; there are no more steps than the limit
pub record IsPlanned (c : Colouring) (b : BoundValue) (meshes : List RankMesh) (p : PlanValue) : Type 0 where
  pub proper : Proper b meshes p
  pub coloured : IsColoured c b meshes p
  pub few : program_steps b meshes ≤ most Steps

-- there are such blocks and colours, as there always are least ones
abbrev pub CanBeColoured : Colouring → BoundValue → List RankMesh → Type 0
CanBeColoured (Least places) b meshes = Unit {0}
CanBeColoured (Told bytes) b meshes = (p : PlanValue) × Certified b meshes bytes p

-- there are none: the first line of the text that is refused, and by which number
abbrev pub IsColouringRefused : Colouring → BoundValue → List RankMesh → Refusal → Type 0
IsColouringRefused (Least places) b meshes r = ⊥
IsColouringRefused (Told bytes) b meshes r = (number : ℕ) × (line : ℕ) × IsRefused b meshes bytes number line × (r ≡ BadPlan number line)

-- there are such blocks and colours, and the program has more steps than the limit
pub record HasManySteps (c : Colouring) (b : BoundValue) (meshes : List RankMesh) (r : Refusal) : Type 0 where
  pub coloured : CanBeColoured c b meshes
  pub many : most Steps < program_steps b meshes
  pub says : r ≡ BeyondLimit Steps (program_steps b meshes)

-- the program has no such plan
abbrev pub IsUnplanned : Colouring → BoundValue → List RankMesh → Refusal → Type 0
IsUnplanned c b meshes r = IsColouringRefused c b meshes r ⊎ HasManySteps c b meshes r

-- a mesh on ranks, and the plan of a program there
pub record Planned : Type 0 where
  pub distribution : Distribution
  pub plan : PlanValue

-- the mesh by these owners and new numbers, and the plan there
abbrev pub PlanIs : Colouring → BoundValue → Owners → Perms → Result Planned Refusal → Type 0
PlanIs c b u n (Ok p) = IsDistribution b.mesh u n p.distribution × IsPlanned c b p.distribution.ranks.items p.plan
PlanIs c b u n (Err r) = (d : Distribution) × IsDistribution b.mesh u n d × IsUnplanned c b d.ranks.items r

-- ---- schedules

-- what the steps of a schedule come from: the standard order, a seed, or a text
pub data Order : Type 0 where
  InStandardOrder : Order
  BySeed : (seed : ℕ) → Order
  ByText : (bytes : List ℕ) → Order

-- the order that is asked for: by the text in a file, or as it is told outright
abbrev pub OrderOf : Schedule → Files → Result Order Refusal → Type 0
OrderOf Standard files r = r ≡ Ok InStandardOrder
OrderOf (Drawn seed) files r = r ≡ Ok (BySeed seed)
OrderOf (Written name) files (Ok order) = (bytes : List ℕ) × IsHeld ScheduleBytes name (files name) (Ok bytes) × (order ≡ ByText bytes)
OrderOf (Written name) files (Err r) = IsHeld ScheduleBytes name (files name) (Err r)

-- the steps of these lines
abbrev pub steps_in : List Line → List Step
steps_in ls = map (λ (l : Line). l.step) ls

-- the line of the last token of a text
abbrev pub end_line : List ℕ → ℕ
end_line bytes = last_line 1 (words 1 bytes)

-- the text of a schedule spells no steps
abbrev pub IsTextRefused : List ℕ → Refusal → Type 0
IsTextRefused bytes r = (e : ScheduleTextRefusal) × SchedulesRead bytes (Err e) × SaysSchedule e r

-- what the first of the steps is judged where m is taken, or, where there is none, the end
abbrev pub judged_next : Outline → (Step → Bool) → List Step → Result (Unit {0}) ScheduleRefusal
judged_next o m [] = ended o m
judged_next o m (s ∷ l) = judged o m s

-- The first step that may not be taken where it stands, or the end: each of the steps before it may be taken where those before that
-- one are; `end` is the line of the end.
pub record IsStepRefused (o : Outline) (ls : List Line) (end : ℕ) (r : Refusal) : Type 0 where
  pub front : List Line
  pub rest : List Line
  pub split : ls ≡ front ++ rest
  pub before : (xs ys : List Step) (s : Step) → steps_in front ≡ xs ++ s ∷ ys → judged o (has xs) s ≡ Ok tt
  pub refusal : ScheduleRefusal
  pub refused : judged_next o (has (steps_in front)) (steps_in rest) ≡ Err refusal
  pub says : SaysNext rest end refusal r

-- The steps of a plan, at most g places of one colour begun together: in standard order, drawn, or as the text has them, where the plan
-- accepts these.
abbrev pub StepsOf : Outline → (g : ℕ) → Order → Result (List Step) Refusal → Type 0
StepsOf o g InStandardOrder r = r ≡ Ok (standard o g)
StepsOf o g (BySeed seed) (Ok l) = IsDrawn o g seed l
StepsOf o g (BySeed seed) (Err r) = ⊥
StepsOf o g (ByText bytes) (Ok l) = (ls : List Line) × SchedulesRead bytes (Ok ls) × (l ≡ steps_in ls) × Accepted o l
StepsOf o g (ByText bytes) (Err r) =
    IsTextRefused bytes r
    ⊎ ((ls : List Line) × SchedulesRead bytes (Ok ls) × IsStepRefused o ls (end_line bytes) r)

-- the steps of a plan of the program
abbrev pub outline_of : BoundValue → Planned → Outline
outline_of b p = step_outline b p.distribution.ranks.items p.plan
