-- What is read for a job, judged and bound, and what ends the reading of it.
use Rattle.std.specs.Prelude.{◌≡◌, ◌≤◌, ℕ, All, List, Ok}
use Rattle.op_outside.specs.Outside.{Files}
use Rattle.c_tree.specs.declared.lexer.tokens.Pos.{Pos}
use Rattle.c_tree.specs.Tree.{ProgramTree}
use Rattle.c_tree.specs.Reads.{Reads}
use Rattle.kernel_model.specs.declared.types.kernels.Resolved.{Resolved}
use Rattle.kernel_model.specs.View.{resolved_of}
use Rattle.kernel_model.specs.Refusals.{Rule, number_of}
use Rattle.name_resolution.specs.Programs.{Resolves}
use Rattle.mesh_decl.specs.Spelling.{Named}
use Rattle.partition.specs.Parts.{Parts, Text}
use Rattle.mesh_decl.specs.declared.decl.MapDecl.{MapDecl}
use Rattle.bound_program.specs.Limits.{max_dim}
use Rattle.bound_program.specs.Values.{BoundValue, bound_of}
use Rattle.checkpoint.specs.declared.state_texts.refusals.StateRefusal.{StateRefusal}
use Rattle.checkpoint.specs.declared.state_texts.refusals.StateRefusal.TheVariants as state
use Rattle.command_words.specs.Refusal as answer
use Rattle.command_words.specs.Words.{Stretch, Whole, Before, From, Parting, ByRule, ByFile, Blocks, OfSize, AsPlanned, Input}
use Rattle.answers.specs.Judgements as judged
use Rattle.answers.specs.Judgements.{SourceIs, TreeIs, TypesAre, MeshIs, EntriesAre, BoundIs, AccessesAre, Cut, Uncut, BeforeItem, FromText, Colouring, Least, Told}
use Rattle.job_inputs.specs.declared.chosen.Chosen.{Chosen}

-- ---- judgements

-- a rule is refused at a place, and the refusal names both
abbrev pub IsAccessRefusal : (Rule → Pos → Type 0) → answer.Refusal → Type 0
IsAccessRefusal Refuses r = (rule : Rule) × (at : Pos) × Refuses rule at × (r ≡ answer.BadAccess (number_of rule) at)

-- The tree was read from some source, and these are its kernels and constants.
pub record IsJudged (p : ProgramTree) (types : Resolved) : Type 0 where
  pub source : List ℕ
  pub reads : Reads source p
  pub resolves : Resolves p (Ok (resolved_of types))

-- ---- what is known of a bound program

-- the program is bound to what the text of a mesh spells, and its kernels keep to their accesses
pub record IsBoundOver (p : ProgramTree) (types : Resolved) (text : List ℕ) (b : BoundValue) : Type 0 where
  pub entries : List Named
  pub spelled : EntriesAre text (Ok entries)
  pub is : BoundIs p types entries (Ok b)
  pub obeyed : AccessesAre b (Ok tt)

-- the program is bound, and its kernels keep to their accesses, over the files of a source and a mesh
pub record IsBoundIn (input : Input) (b : BoundValue) (files : Files) : Type 0 where
  pub bytes : List ℕ
  pub program : ProgramTree
  pub types : Resolved
  pub text : List ℕ
  pub held : SourceIs input files (Ok bytes)
  pub read : TreeIs bytes (Ok program)
  pub typed : TypesAre program (Ok types)
  pub there : MeshIs input files (Ok text)
  pub over : IsBoundOver program types text b

-- each of its maps leads to at most 64 elements from one
abbrev pub HasNarrowMaps : BoundValue → Type 0
HasNarrowMaps b = All (λ (d : MapDecl). d.dim ≤ max_dim) b.mesh.maps

-- ---- the items that run

-- what says which items run, where this is the text of that file
abbrev pub cut_by : Stretch → (text : List ℕ) → Cut
cut_by Whole text = Uncut
cut_by (Before item) text = BeforeItem item
cut_by (From name) text = FromText text

-- what the refusal of a state text is as one of the program; want of memory is none
abbrev pub SaysState : StateRefusal → answer.Refusal → Type 0
SaysState (state.Header line) r = r ≡ answer.BadState 1 line
SaysState (state.Item line) r = r ≡ answer.BadState 2 line
SaysState (state.Shape line) r = r ≡ answer.BadState 3 line
SaysState (state.Value line) r = r ≡ answer.BadState 4 line
SaysState (state.End line) r = r ≡ answer.BadState 5 line
SaysState state.OutOfMemory r = ⊥

-- the program whose items run
abbrev pub chosen_of : Chosen → judged.Chosen
chosen_of c = record { program = bound_of c.bound; first = c.first }

-- ---- owners

-- what owners come from, where this is the text of that file
abbrev pub parts_by : Parting → (text : List ℕ) → Parts
parts_by (ByRule rule) text = rule
parts_by (ByFile name) text = Text text

-- ---- plans

-- what blocks and colours come from, where this is the text of that file
abbrev pub colouring_by : Blocks → (text : List ℕ) → Colouring
colouring_by (OfSize places) text = Least places
colouring_by (AsPlanned name) text = Told text
