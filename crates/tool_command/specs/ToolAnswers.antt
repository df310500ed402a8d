-- What `op2-tools` answers to its words, over files that are told.
use Rattle.std.specs.Prelude.{◌≡◌, ℕ, ◌<◌, ◌⊎◌, Bool, true, false, List, [], ◌++◌, drop, Option, Some, None, Result, Ok, Err, codes}
use Rattle.std.specs.Fmt.{decimal}
use Rattle.op_outside.specs.Outside.{Files}
use Rattle.mesh_decl.specs.declared.owners.Owners.{Owners}
use Rattle.mesh_decl.specs.Mesh.{set_count, set_size, set_name}
use Rattle.mesh_decl.specs.Named.{NamesMap, NamesSet}
use Rattle.metis_text.specs.Numbers.{ranks_in}
use Rattle.metis_text.specs.Owned.{AreByMetis}
use Rattle.metis_text.specs.declared.owner_text.metis.refusals.MetisRefusal.{MetisRefusal}
use Rattle.metis_text.specs.declared.owner_text.metis.refusals.MetisRefusal.TheVariants as metis
use Rattle.partition.specs.Spelling.{Spells}
use Rattle.metis_text.specs.Written.{partition_text, HasName}
use Rattle.bound_program.specs.Values.{BoundValue}
use Rattle.bound_program.specs.Fits.{Fits}
use Rattle.mesh_draw.specs.Pieces.{IsPiece}
use Rattle.mesh_draw.specs.Answered.{IsRefused}
use Rattle.mesh_draw.specs.declared.output_pieces.refusals.PieceRefusal.{PieceRefusal}
use Rattle.mesh_draw.specs.declared.output_pieces.refusals.PieceRefusal.TheVariants.{NoPrint, NoHeader, FewRows, OutOfMemory}
use Rattle.metis_text.specs.Graph.{IsGraph}
use Rattle.plan_counts.specs.Table.{counts_text}
use Rattle.gmsh_mesh.specs.declared.choice.Dimension.{Dimension}
use Rattle.gmsh_mesh.specs.declared.refusal.GmshRefusal.{GmshRefusal}
use Rattle.gmsh_mesh.specs.declared.refusal.GmshRefusal.TheVariants as mesh
use Rattle.gmsh_mesh.specs.declared.convert.Conversion as conversions
use Rattle.gmsh_mesh.specs.Outcome.{Conversion, Comes}
use Rattle.cell_numbers.specs.declared.types.Shown.{Shown}
use Rattle.cell_numbers.specs.declared.types.Shown.TheVariants as shown
use Rattle.cell_numbers.specs.declared.types.ShownRefusal.TheVariants as unshown
use Rattle.mesh_draw.specs.declared.shapes.shape.ShapeRefusal.TheVariants as shape
use Rattle.mesh_draw.specs.declared.fields.refusals.FieldRefusal.{FieldRefusal}
use Rattle.mesh_draw.specs.declared.fields.refusals.FieldRefusal.TheVariants as untold
use Rattle.mesh_draw.specs.declared.types.DrawRefusal.{DrawRefusal}
use Rattle.mesh_draw.specs.declared.types.DrawRefusal.TheVariants as undrawn
use Rattle.mesh_draw.specs.Drawn.{IsDrawn, IsUndrawn, IsGrid, IsNoGrid}
use Rattle.command_words.specs.Refusal.{PrintWeight, PartitionBytes, MeshValues, MeshBytes, Refusal, CannotRead, BeyondLimit}
use Rattle.command_words.specs.Words.{InFiles, Options}
use Rattle.command_words.specs.Lines.{Answer, done, refused}
use Rattle.answers.specs.Judgements.{IsHeld, Planned}
use Rattle.answers.specs.Answers.{given, BoundAnswers, PlanningAnswers, without}
use Rattle.tool_command.specs.Judged.{IsJudged}
use Rattle.tool_command.specs.ExplainAnswers.{ExplainAnswers}
use Rattle.tool_command.specs.GmshLines.{said_of_mesh}
use Rattle.tool_words.specs.declared.usage.TheConstants.{USAGE, VERSION}
use Rattle.tool_words.specs.Words.{ProgramJob, Picks, Graphs, TakesOwners, Picture, PlanJob, TellsOwners, Counts, Draws, Grids, Command, OnProgram, OnPlan, Converts, Explains, ShowsUsage, ShowsVersion, WordsAre}

-- ---- lines

-- a whole line
abbrev pub tool_line : List ℕ → List ℕ
tool_line text = codes "op2-tools: " ++ text ++ codes "\n"

-- what a job reads is refused, and the line says why
abbrev pub refused_by_tool : (text : List ℕ) → Answer
refused_by_tool text = record { status = 20; out = []; line = tool_line text }

-- the words are refused
abbrev pub words_refused : Answer
words_refused = record { status = 2; out = []; line = tool_line (codes "usage") }

-- ---- pick

-- what is said where there is no piece
abbrev pub said_of_piece : (file : List ℕ) → PieceRefusal → List ℕ
said_of_piece file NoPrint = codes "pick 1 name " ++ file
said_of_piece file (NoHeader line) = codes "pick 2 line " ++ decimal line
said_of_piece file (FewRows line) = codes "pick 3 line " ++ decimal line
said_of_piece file OutOfMemory = []

-- want of memory is no refusal
abbrev pub IsCause : PieceRefusal → Type 0
IsCause OutOfMemory = ⊥
IsCause e = Unit {0}

-- there is no piece, and the answer says so
pub record LacksPiece (b : BoundValue) (file : List ℕ) (earlier : ℕ) (output : List ℕ) (a : Answer) : Type 0 where
  pub refusal : PieceRefusal
  pub refused : IsRefused b file earlier output refusal
  pub cause : IsCause refusal
  pub says : a ≡ refused_by_tool (said_of_piece file refusal)

-- what is answered of an output: the piece of it, or that there is none
abbrev pub PieceAnswers : BoundValue → (file : List ℕ) (earlier : ℕ) (output : List ℕ) → Answer → Type 0
PieceAnswers b file earlier output a =
    ((piece : List ℕ) × IsPiece b file earlier output piece × (a ≡ done piece)) ⊎ LacksPiece b file earlier output a

-- The bytes of an output in a file. It has no more than a program may print.
abbrev pub OutputIs : (output : List ℕ) → Files → Result (List ℕ) Refusal → Type 0
OutputIs output files r = IsHeld PrintWeight output (files output) r

-- what is answered of a bound program: one judgement, and then the answer to the output's bytes
abbrev pub PickAnswers : (output file : List ℕ) (earlier : ℕ) → Files → BoundValue → Answer → Type 0
PickAnswers output file earlier files b a = given (OutputIs output files) (PieceAnswers b file earlier) a

-- ---- graph

-- what is answered of a map's name: the graph of neighbours by it, or that the program declares none of that name
abbrev pub GraphAnswers : (map : List ℕ) → BoundValue → Answer → Type 0
GraphAnswers map b a =
    ((m : ℕ) × NamesMap b.mesh map (Some m) × (text : List ℕ) × IsGraph b.mesh m text × (a ≡ done text))
    ⊎ (NamesMap b.mesh map None × (a ≡ refused_by_tool (codes "graph 1 name " ++ map)))

-- ---- owners

-- what is answered of owners: a text that gives them back where it is read, or that no text can name one of the sets
abbrev pub OwnersTold : BoundValue → Owners → Answer → Type 0
OwnersTold b u a =
    ((a ≡ done (partition_text b.mesh u.sets.items)) × Spells b.mesh u.ranks (partition_text b.mesh u.sets.items) u.sets.items)
    ⊎ ((s : ℕ) × (s < set_count b.mesh) × ¬ HasName b.mesh s
    × (a ≡ refused_by_tool (codes "owners 1 name " ++ set_name b.mesh s)))

-- what is said of the text of a partitioner that is refused
abbrev pub said_of_metis : MetisRefusal → List ℕ
said_of_metis (metis.NoRank line) = codes "owners 3 line " ++ decimal line
said_of_metis (metis.Many line) = codes "owners 4 line " ++ decimal line
said_of_metis (metis.Few line) = codes "owners 5 line " ++ decimal line
said_of_metis metis.OutOfMemory = []

-- the text of a partitioner is refused, and the answer says so; want of memory is no refusal
pub record LacksRanks (b : BoundValue) (ranks set : ℕ) (bytes : List ℕ) (a : Answer) : Type 0 where
  pub refusal : MetisRefusal
  pub refused : ranks_in ranks (set_size b.mesh set) bytes ≡ Err refusal
  pub says : a ≡ refused_by_tool (said_of_metis refusal)

-- what is answered to the text of a partitioner for a set: the owners, or that it is refused
abbrev pub NumbersTaken : (ranks : ℕ) → BoundValue → (set : ℕ) → (bytes : List ℕ) → Answer → Type 0
NumbersTaken ranks b set bytes a =
    ((u : Owners) × AreByMetis b.mesh ranks set bytes u × OwnersTold b u a) ⊎ LacksRanks b ranks set bytes a

-- the same for the first set of this name, if there is one
abbrev pub PartitionTaken : (ranks : ℕ) (set : List ℕ) → BoundValue → (bytes : List ℕ) → Answer → Type 0
PartitionTaken ranks set b bytes a =
    ((s : ℕ) × NamesSet b.mesh set (Some s) × NumbersTaken ranks b s bytes a)
    ⊎ (NamesSet b.mesh set None × (a ≡ refused_by_tool (codes "owners 2 name " ++ set)))

-- what is answered of a bound program: one judgement, and then the answer to the partitioner's text
abbrev pub TakenAnswers : (ranks : ℕ) (file set : List ℕ) → Files → BoundValue → Answer → Type 0
TakenAnswers ranks file set files b a = given (IsHeld PartitionBytes file (files file)) (PartitionTaken ranks set b) a

-- ---- stat

-- what is answered of a plan
abbrev pub CountAnswers : (plain : Bool) → BoundValue → Planned → Answer → Type 0
CountAnswers plain b p a = a ≡ done (counts_text plain b p.distribution.ranks.items p.plan)

-- ---- draw and vtk

-- the number of the rank or the loop that is shown
abbrev pub number_in : Shown → ℕ
number_in shown.Owners = 0
number_in (shown.Halos rank) = rank
number_in (shown.Colours site) = site

-- what is said of a line of an output that doesn't tell the dats
abbrev pub said_of_field : FieldRefusal → List ℕ
said_of_field (untold.NoHeader line) = codes " 10 line " ++ decimal line
said_of_field (untold.FewRows line) = codes " 11 line " ++ decimal line
said_of_field (untold.NotNumbers line) = codes " 12 line " ++ decimal line
said_of_field untold.OutOfMemory = []

-- what is said where there is no picture: the number of the cause, and the name, the rank, the loop or the line that is refused
abbrev pub said_of_picture : Picture → DrawRefusal → List ℕ
said_of_picture p (undrawn.Shape shape.NoDat) = codes " 1 name " ++ p.coords
said_of_picture p (undrawn.Shape shape.NoMap) = codes " 2 name " ++ p.cells
said_of_picture p (undrawn.Shape shape.OtherSets) = codes " 3 name " ++ p.cells
said_of_picture p (undrawn.Shape shape.Dims) = codes " 4 name " ++ p.cells
said_of_picture p undrawn.NotPlane = codes " 5 name " ++ p.coords
said_of_picture p (undrawn.Shown unshown.NoRank) = codes " 6 rank " ++ decimal (number_in p.shown)
said_of_picture p (undrawn.Shown unshown.NoLoop) = codes " 7 loop " ++ decimal (number_in p.shown)
said_of_picture p (undrawn.Shown unshown.OtherSet) = codes " 8 loop " ++ decimal (number_in p.shown)
said_of_picture p undrawn.ManyColours = codes " 9 loop " ++ decimal (number_in p.shown)
said_of_picture p (undrawn.Fields e) = said_of_field e
said_of_picture p (undrawn.Shown unshown.OutOfMemory) = []

-- want of memory is no refusal
abbrev pub IsPictureCause : DrawRefusal → Type 0
IsPictureCause (undrawn.Shown unshown.OutOfMemory) = ⊥
IsPictureCause e = Unit {0}

-- a job's text of a picture, or the cause why it has none
abbrev pub PictureAnswers : (job : List ℕ) → Picture → (IsText : List ℕ → Type 0) (HasNone : DrawRefusal → Type 0) → Answer → Type 0
PictureAnswers job p IsText HasNone a =
    ((text : List ℕ) × IsText text × (a ≡ done text))
    ⊎ ((e : DrawRefusal) × HasNone e × IsPictureCause e × (a ≡ refused_by_tool (job ++ said_of_picture p e)))

-- what is answered of a picture of a mesh on ranks
abbrev pub DrawAnswers : Picture → BoundValue → Planned → Answer → Type 0
DrawAnswers p b d a =
    PictureAnswers (codes "draw") p (IsDrawn b d.distribution d.plan p.coords p.cells p.shown)
    (IsUndrawn b d.distribution d.plan p.coords p.cells p.shown) a

-- what is answered of its text for VTK, with what the output of a run says where there is one
abbrev pub GridOver : Picture → BoundValue → Planned → Option (List ℕ) → Answer → Type 0
GridOver p b d output a =
    PictureAnswers (codes "vtk") p (IsGrid b d.distribution d.plan p.coords p.cells p.shown output)
    (IsNoGrid b d.distribution d.plan p.coords p.cells p.shown output) a

-- the same, out of the file that has the output, where one is named: one judgement, and then the text
abbrev pub GridAnswers : Picture → Option (List ℕ) → Files → BoundValue → Planned → Answer → Type 0
GridAnswers p None files b d a = GridOver p b d None a
GridAnswers p (Some output) files b d a = given (OutputIs output files) (λ bytes. GridOver p b d (Some bytes)) a

-- ---- from-gmsh

-- the answer where there is no mesh; the limits are those of a mesh text
abbrev pub mesh_refused : GmshRefusal → Answer
mesh_refused (mesh.Limit size) = refused (BeyondLimit MeshValues size)
mesh_refused (mesh.Bytes size) = refused (BeyondLimit MeshBytes size)
mesh_refused e = refused_by_tool (said_of_mesh e)

-- a mesh text and a program, as definitions see them
abbrev pub conversion_of : conversions.Conversion → Conversion
conversion_of c = record { mesh = c.mesh.items; source = c.source.now }

-- the answer where `op2` refuses a program, with what its line says
abbrev pub source_refused : (line : List ℕ) → Answer
source_refused line = record { status = 20; out = []; line = codes "op2-tools: from-gmsh 16 " ++ drop 5 line }

-- the answer that is a program, where no line of `op2` refuses it
abbrev pub source_answer : (source : List ℕ) → (line : Option (List ℕ)) → Answer
source_answer source None = done source
source_answer source (Some line) = source_refused line

-- The answer that is a program for a mesh, judged by `op2` first: the answer to `check` over files that are these two texts has status 0,
-- or the line by which the program is refused.
abbrev pub SourceAnswers : (source mesh : List ℕ) → Answer → Type 0
SourceAnswers source mesh a = (line : Option (List ℕ)) × IsJudged source mesh line × (a ≡ source_answer source line)

-- the answer that is a mesh, or a program for it
abbrev pub TextAnswers : (writes_source : Bool) → Conversion → Answer → Type 0
TextAnswers false c a = a ≡ done c.mesh
TextAnswers true c a = SourceAnswers c.source c.mesh a

-- what is answered of the bytes of a file
abbrev pub ConversionAnswers : Option Dimension → (scale : ℕ) → (writes_source : Bool) → (bytes : List ℕ) → Answer → Type 0
ConversionAnswers dim scale writes_source bytes a =
    ((e : GmshRefusal) × Comes bytes dim scale (Err e) × (a ≡ mesh_refused e))
    ⊎ ((c : Conversion) × Comes bytes dim scale (Ok c) × TextAnswers writes_source c a)

-- The answer to a file. It has no more bytes than a mesh file.
abbrev pub GmshAnswers : (file : List ℕ) → Option Dimension → (scale : ℕ) → (writes_source : Bool) → Files → Answer → Type 0
GmshAnswers file dim scale writes_source files =
    given (IsHeld MeshBytes file (files file)) (ConversionAnswers dim scale writes_source)

-- ---- the whole

-- what a job answers of a bound program
abbrev pub OnBound : ProgramJob → Files → BoundValue → Answer → Type 0
OnBound (Picks output file earlier) files b a = PickAnswers output file earlier files b a
OnBound (Graphs map) files b a = GraphAnswers map b a
OnBound (TakesOwners ranks file set) files b a = TakenAnswers ranks file set files b a

-- what a job answers of the plan of a bound program
abbrev pub OnPlanned : PlanJob → BoundValue → Files → Planned → Answer → Type 0
OnPlanned TellsOwners b files p a = OwnersTold b p.distribution.owners a
OnPlanned (Counts plain) b files p a = CountAnswers plain b p a
OnPlanned (Draws picture) b files p a = DrawAnswers picture b p a
OnPlanned (Grids picture output) b files p a = GridAnswers picture output files b p a

-- What a job on the plan of a bound program answers: `op2`'s judgements up to the plan, and then the job's. The program fits, as all that
-- is bound does; this stands here since distributions and plans are one where it is so.
abbrev pub PlanJobAnswers : PlanJob → Options → Files → BoundValue → Answer → Type 0
PlanJobAnswers job o files b a = Fits b × PlanningAnswers (OnPlanned job b files) o files b a

-- the answer of a command: `op2`'s judgements up to the bound program, and then the job's
abbrev pub CommandAnswers : Command → Files → Answer → Type 0
CommandAnswers (OnProgram job source mesh) files = BoundAnswers (OnBound job files) (InFiles source mesh) files
CommandAnswers (OnPlan job o source mesh) files = BoundAnswers (PlanJobAnswers job o files) (InFiles source mesh) files
CommandAnswers (Converts file dim scale writes_source) files = GmshAnswers file dim scale writes_source files
CommandAnswers (Explains call) files = ExplainAnswers call files
CommandAnswers ShowsUsage files = λ a. a ≡ done USAGE.now
CommandAnswers ShowsVersion files = λ a. a ≡ done VERSION.now

-- The answer to the words.
abbrev pub ToolAnswers : List (List ℕ) → Files → Answer → Type 0
ToolAnswers words files a =
    (WordsAre words None × (a ≡ words_refused)) ⊎ ((c : Command) × WordsAre words (Some c) × CommandAnswers c files a)

-- This file comes to be read: were it missing, the answer would say so.
abbrev pub ComesToBeRead : List (List ℕ) → Files → List ℕ → Type 0
ComesToBeRead words files name = ToolAnswers words (without name files) (refused (CannotRead name))
