-- What the refusals of the parts are as those of the program. Want of memory is none.
use Rattle.std.specs.Prelude.{◌≡◌, ℕ, suc, List, [], ◌∷◌, slice_index_or}
use Rattle.c_tree.specs.declared.lexer.refusals.LexRefusal.{LexRefusal}
use Rattle.c_tree.specs.declared.lexer.refusals.LexRefusal.TheVariants as lex
use Rattle.c_tree.specs.Tree as tree
use Rattle.c_tree.specs.Tree.{HostTrees, NoHost, MoreHost, HostCall, ProgramTree}
use Rattle.c_tree.specs.declared.refusals.SourceRefusal.{SourceRefusal}
use Rattle.c_tree.specs.declared.refusals.SourceRefusal.TheVariants as source
use Rattle.name_resolution.specs.declared.breaches.TypeRule.TheVariants as rule
use Rattle.name_resolution.specs.declared.refusals.TypeRefusal.{TypeRefusal}
use Rattle.name_resolution.specs.declared.refusals.TypeRefusal.TheVariants as types
use Rattle.name_resolution.specs.First.{number_of as type_number}
use Rattle.mesh_decl.specs.declared.text.entry.MeshRefusal.{MeshRefusal}
use Rattle.mesh_decl.specs.declared.text.entry.MeshRefusal.TheVariants as mesh
use Rattle.bound_program.specs.declared.refusals.refusals.Counted.{Counted}
use Rattle.bound_program.specs.declared.refusals.refusals.Counted.TheVariants as counted
use Rattle.bound_program.specs.declared.refusals.refusals.BindRefusal.{BindRefusal}
use Rattle.bound_program.specs.declared.refusals.refusals.BindRefusal.TheVariants as bind
use Rattle.bound_program.specs.Refusals.{number_of as bind_number}
use Rattle.partition.specs.declared.part_text.refusals.PartRefusal.{PartRefusal}
use Rattle.partition.specs.declared.part_text.refusals.PartRefusal.TheVariants as part
use Rattle.schedule_steps.specs.declared.text.lines.Line.{Line}
use Rattle.schedule_steps.specs.declared.text.refusals.ScheduleTextRefusal.{ScheduleTextRefusal}
use Rattle.schedule_steps.specs.declared.text.refusals.ScheduleTextRefusal.TheVariants as text
use Rattle.step_judge.specs.declared.refusal.ScheduleRefusal.{ScheduleRefusal}
use Rattle.step_judge.specs.declared.refusal.ScheduleRefusal.TheVariants as taking
use Rattle.op_translate.specs.declared.refusals.TransRefusal.{TransRefusal}
use Rattle.op_translate.specs.declared.refusals.TransRefusal.TheVariants as trans
use Rattle.partition.specs.Parts.{NumbersRefusal, UnknownMap, OwnersRefusal, NoDat, NoMap, Unspelled}
use Rattle.command_words.specs.Refusal.{Limit, MeshValues, Sets, Maps, Dats, SetSize, Dim, MeshCells, Arguments, Trace, PrintWeight, ScheduleSteps, Refusal, NoTokens, NoTree, TooDeep, BadName, BadBinding, BadTarget, BadMesh, BadPart, BadPartition, BadSchedule, BadStep, EarlyStep, LeftStep, BadStub, BeyondLimit}
use Rattle.command_words.specs.Lines.{most}

-- ---- the source

-- of the lexer
abbrev pub SaysLex : LexRefusal → Refusal → Type 0
SaysLex (lex.BadByte at) r = r ≡ NoTokens 1 at
SaysLex (lex.OpenComment at) r = r ≡ NoTokens 2 at
SaysLex (lex.OpenText at) r = r ≡ NoTokens 3 at
SaysLex (lex.NumberTooLarge at) r = r ≡ NoTokens 4 at
SaysLex lex.OutOfMemory r = ⊥

-- of the reader
abbrev pub SaysSource : SourceRefusal → Refusal → Type 0
SaysSource (source.Lex l) r = SaysLex l r
SaysSource (source.Syntax at) r = r ≡ NoTree at
SaysSource (source.TooDeep at) r = r ≡ TooDeep at
SaysSource source.OutOfMemory r = ⊥

-- of names and types
abbrev pub SaysTypes : TypeRefusal → Refusal → Type 0
SaysTypes (types.UnknownName at) r = r ≡ BadName (type_number rule.UnknownName) at
SaysTypes (types.DuplicateName at) r = r ≡ BadName (type_number rule.DuplicateName) at
SaysTypes (types.NotAnArray at) r = r ≡ BadName (type_number rule.NotAnArray) at
SaysTypes (types.NotAScalar at) r = r ≡ BadName (type_number rule.NotAScalar) at
SaysTypes (types.AssignsCounter at) r = r ≡ BadName (type_number rule.AssignsCounter) at
SaysTypes (types.AssignsConst at) r = r ≡ BadName (type_number rule.AssignsConst) at
SaysTypes (types.TooMuchWork at) r = r ≡ BadName (type_number rule.TooMuchWork) at
SaysTypes types.OutOfMemory r = ⊥

-- of a translation or a restoration
abbrev pub SaysTranslation : TransRefusal → Refusal → Type 0
SaysTranslation (trans.NameTaken at) r = r ≡ BadStub 1 at
SaysTranslation (trans.NoCall at) r = r ≡ BadStub 2 at
SaysTranslation (trans.LoopLeft at) r = r ≡ BadStub 3 at
SaysTranslation (trans.Lex l) r = SaysLex l r
SaysTranslation trans.OutOfMemory r = ⊥

-- ---- the mesh

-- of a mesh text
abbrev pub SaysMesh : MeshRefusal → Refusal → Type 0
SaysMesh (mesh.Header line) r = r ≡ BadMesh 1 line
SaysMesh (mesh.Syntax line) r = r ≡ BadMesh 2 line
SaysMesh (mesh.DuplicateEntry line) r = r ≡ BadMesh 3 line
SaysMesh (mesh.WrongCount line) r = r ≡ BadMesh 4 line
SaysMesh (mesh.NumberRange line) r = r ≡ BadMesh 5 line
SaysMesh (mesh.Limit size) r = r ≡ BeyondLimit MeshValues size
SaysMesh mesh.OutOfMemory r = ⊥

-- ---- binding

-- the limit of a size that is counted
abbrev pub limit_of : Counted → Limit
limit_of counted.Sets = Sets
limit_of counted.Maps = Maps
limit_of counted.Dats = Dats
limit_of counted.SetSize = SetSize
limit_of counted.Dim = Dim
limit_of counted.MeshCells = MeshCells
limit_of counted.Arguments = Arguments
limit_of counted.PrintWeight = PrintWeight

-- the names of the maps that `main` declares, in the order of the text
abbrev pub maps_in : HostTrees → List (List ℕ)
maps_in NoHost = []
maps_in (MoreHost (HostCall (tree.DeclMap at x from to n d t)) hs) = x.name ∷ maps_in hs
maps_in (MoreHost h hs) = maps_in hs

-- the name of the map with this number
abbrev pub map_name : ProgramTree → ℕ → List ℕ
map_name p m = slice_index_or (maps_in p.main.body) m []

-- of binding that source
abbrev pub SaysBinding : ProgramTree → BindRefusal → Refusal → Type 0
SaysBinding p (bind.UnknownSet at) r = r ≡ BadBinding (bind_number (bind.UnknownSet at)) at
SaysBinding p (bind.UnknownMap at) r = r ≡ BadBinding (bind_number (bind.UnknownMap at)) at
SaysBinding p (bind.UnknownDat at) r = r ≡ BadBinding (bind_number (bind.UnknownDat at)) at
SaysBinding p (bind.UnknownKernel at) r = r ≡ BadBinding (bind_number (bind.UnknownKernel at)) at
SaysBinding p (bind.ArgCount at) r = r ≡ BadBinding (bind_number (bind.ArgCount at)) at
SaysBinding p (bind.DimMismatch at) r = r ≡ BadBinding (bind_number (bind.DimMismatch at)) at
SaysBinding p (bind.TypeMismatch at) r = r ≡ BadBinding (bind_number (bind.TypeMismatch at)) at
SaysBinding p (bind.SetMismatch at) r = r ≡ BadBinding (bind_number (bind.SetMismatch at)) at
SaysBinding p (bind.IndexRange at) r = r ≡ BadBinding (bind_number (bind.IndexRange at)) at
SaysBinding p (bind.MapTarget at m e i) r = r ≡ BadTarget at (map_name p m) e i
SaysBinding p (bind.GlobalTwice at) r = r ≡ BadBinding (bind_number (bind.GlobalTwice at)) at
SaysBinding p (bind.ReservedAccess at) r = r ≡ BadBinding (bind_number (bind.ReservedAccess at)) at
SaysBinding p (bind.ControlNotStatic at) r = r ≡ BadBinding (bind_number (bind.ControlNotStatic at)) at
SaysBinding p bind.TraceTooLong r = r ≡ BeyondLimit Trace (suc (most Trace))
SaysBinding p (bind.Limit c size) r = r ≡ BeyondLimit (limit_of c) size
SaysBinding p (bind.DeclarationPlace at) r = r ≡ BadBinding (bind_number (bind.DeclarationPlace at)) at
SaysBinding p (bind.UnknownEntry at) r = r ≡ BadBinding (bind_number (bind.UnknownEntry at)) at
SaysBinding p bind.OutOfMemory r = ⊥

-- ---- ranks

-- of new numbers
abbrev pub SaysNumbers : NumbersRefusal → Refusal → Type 0
SaysNumbers (UnknownMap name) r = r ≡ BadPart name

-- of the text of a partition
abbrev pub SaysPartition : PartRefusal → Refusal → Type 0
SaysPartition (part.Header line) r = r ≡ BadPartition 1 line
SaysPartition (part.Syntax line) r = r ≡ BadPartition 2 line
SaysPartition (part.UnknownSet line) r = r ≡ BadPartition 3 line
SaysPartition (part.MissingSet line) r = r ≡ BadPartition 4 line
SaysPartition (part.WrongCount line) r = r ≡ BadPartition 5 line
SaysPartition (part.RankRange line) r = r ≡ BadPartition 6 line
SaysPartition part.OutOfMemory r = ⊥

-- of owners
abbrev pub SaysOwners : OwnersRefusal → Refusal → Type 0
SaysOwners (NoDat name) r = r ≡ BadPart name
SaysOwners (NoMap name) r = r ≡ BadPart name
SaysOwners (Unspelled e) r = SaysPartition e r

-- ---- schedules

-- of the text of a schedule
abbrev pub SaysSchedule : ScheduleTextRefusal → Refusal → Type 0
SaysSchedule (text.Header line) r = r ≡ BadSchedule 1 line
SaysSchedule (text.Syntax line) r = r ≡ BadSchedule 2 line
SaysSchedule text.TooManySteps r = r ≡ BeyondLimit ScheduleSteps (suc (most ScheduleSteps))
SaysSchedule text.OutOfMemory r = ⊥

-- of taking a step on its line
abbrev pub SaysStep : Line → ScheduleRefusal → Refusal → Type 0
SaysStep l taking.NoSuchStep r = r ≡ BadStep 1 l.line l.step
SaysStep l taking.Repeated r = r ≡ BadStep 2 l.line l.step
SaysStep l (taking.TooEarly t) r = r ≡ EarlyStep l.line l.step t
SaysStep l (taking.Incomplete t) r = ⊥

-- of the end, on the line of `done`
abbrev pub SaysEnd : (line : ℕ) → ScheduleRefusal → Refusal → Type 0
SaysEnd line (taking.Incomplete t) r = r ≡ LeftStep line t
SaysEnd line _ r = ⊥

-- of what comes first of these steps, or of the end
abbrev pub SaysNext : List Line → (end : ℕ) → ScheduleRefusal → Refusal → Type 0
SaysNext [] end e r = SaysEnd end e r
SaysNext (l ∷ ls) end e r = SaysStep l e r
