-- The refusal of a part is one of the program, and no other; only want of memory is none.
use Rattle.std.proofs.Common.{◌≡◌, ◌≢◌, ℕ, List, [], ◌∷◌, refl, sym, ◌∙◌, ap}
use Rattle.c_tree.specs.declared.lexer.refusals.LexRefusal.{LexRefusal}
use Rattle.c_tree.specs.declared.lexer.refusals.LexRefusal.TheVariants as lex
use Rattle.c_tree.specs.Tree.{ProgramTree}
use Rattle.c_tree.specs.declared.refusals.SourceRefusal.{SourceRefusal}
use Rattle.c_tree.specs.declared.refusals.SourceRefusal.TheVariants as source
use Rattle.name_resolution.specs.declared.refusals.TypeRefusal.{TypeRefusal}
use Rattle.name_resolution.specs.declared.refusals.TypeRefusal.TheVariants as types
use Rattle.op_translate.specs.declared.refusals.TransRefusal.{TransRefusal}
use Rattle.op_translate.specs.declared.refusals.TransRefusal.TheVariants as trans
use Rattle.mesh_decl.specs.declared.text.entry.MeshRefusal.{MeshRefusal}
use Rattle.mesh_decl.specs.declared.text.entry.MeshRefusal.TheVariants as mesh
use Rattle.bound_program.specs.declared.refusals.refusals.BindRefusal.{BindRefusal}
use Rattle.bound_program.specs.declared.refusals.refusals.BindRefusal.TheVariants as bind
use Rattle.partition.specs.declared.part_text.refusals.PartRefusal.{PartRefusal}
use Rattle.partition.specs.declared.part_text.refusals.PartRefusal.TheVariants as part
use Rattle.schedule_steps.specs.declared.text.lines.Line.{Line}
use Rattle.schedule_steps.specs.declared.text.refusals.ScheduleTextRefusal.{ScheduleTextRefusal}
use Rattle.schedule_steps.specs.declared.text.refusals.ScheduleTextRefusal.TheVariants as text
use Rattle.step_judge.specs.declared.refusal.ScheduleRefusal.{ScheduleRefusal}
use Rattle.step_judge.specs.declared.refusal.ScheduleRefusal.TheVariants as taking
use Rattle.partition.specs.Parts.{NumbersRefusal, UnknownMap, OwnersRefusal, NoDat, NoMap, Unspelled}
use Rattle.command_words.specs.Refusal.{Refusal, status_of}
use Rattle.answers.specs.Said.{SaysLex, SaysSource, SaysTypes, SaysTranslation, SaysMesh, SaysBinding, SaysNumbers, SaysPartition, SaysOwners, SaysSchedule, SaysStep, SaysEnd, SaysNext}

-- ---- no other

pub lex_once : (l : LexRefusal) (r s : Refusal) → SaysLex l r → SaysLex l s → r ≡ s
lex_once (lex.BadByte at) r s h k = h ∙ sym k
lex_once (lex.OpenComment at) r s h k = h ∙ sym k
lex_once (lex.OpenText at) r s h k = h ∙ sym k
lex_once (lex.NumberTooLarge at) r s h k = h ∙ sym k
lex_once lex.OutOfMemory r s h k = absurd h

pub source_once : (e : SourceRefusal) (r s : Refusal) → SaysSource e r → SaysSource e s → r ≡ s
source_once (source.Lex l) r s h k = lex_once l r s h k
source_once (source.Syntax at) r s h k = h ∙ sym k
source_once (source.TooDeep at) r s h k = h ∙ sym k
source_once source.OutOfMemory r s h k = absurd h

pub types_once : (e : TypeRefusal) (r s : Refusal) → SaysTypes e r → SaysTypes e s → r ≡ s
types_once (types.UnknownName at) r s h k = h ∙ sym k
types_once (types.DuplicateName at) r s h k = h ∙ sym k
types_once (types.NotAnArray at) r s h k = h ∙ sym k
types_once (types.NotAScalar at) r s h k = h ∙ sym k
types_once (types.AssignsCounter at) r s h k = h ∙ sym k
types_once (types.AssignsConst at) r s h k = h ∙ sym k
types_once (types.TooMuchWork at) r s h k = h ∙ sym k
types_once types.OutOfMemory r s h k = absurd h

pub translation_once : (e : TransRefusal) (r s : Refusal) → SaysTranslation e r → SaysTranslation e s → r ≡ s
translation_once (trans.NameTaken at) r s h k = h ∙ sym k
translation_once (trans.NoCall at) r s h k = h ∙ sym k
translation_once (trans.LoopLeft at) r s h k = h ∙ sym k
translation_once (trans.Lex l) r s h k = lex_once l r s h k
translation_once trans.OutOfMemory r s h k = absurd h

pub mesh_once : (e : MeshRefusal) (r s : Refusal) → SaysMesh e r → SaysMesh e s → r ≡ s
mesh_once (mesh.Header line) r s h k = h ∙ sym k
mesh_once (mesh.Syntax line) r s h k = h ∙ sym k
mesh_once (mesh.DuplicateEntry line) r s h k = h ∙ sym k
mesh_once (mesh.WrongCount line) r s h k = h ∙ sym k
mesh_once (mesh.NumberRange line) r s h k = h ∙ sym k
mesh_once (mesh.Limit size) r s h k = h ∙ sym k
mesh_once mesh.OutOfMemory r s h k = absurd h

pub binding_once : (p : ProgramTree) (e : BindRefusal) (r s : Refusal) → SaysBinding p e r → SaysBinding p e s → r ≡ s
binding_once p (bind.UnknownSet at) r s h k = h ∙ sym k
binding_once p (bind.UnknownMap at) r s h k = h ∙ sym k
binding_once p (bind.UnknownDat at) r s h k = h ∙ sym k
binding_once p (bind.UnknownKernel at) r s h k = h ∙ sym k
binding_once p (bind.ArgCount at) r s h k = h ∙ sym k
binding_once p (bind.DimMismatch at) r s h k = h ∙ sym k
binding_once p (bind.TypeMismatch at) r s h k = h ∙ sym k
binding_once p (bind.SetMismatch at) r s h k = h ∙ sym k
binding_once p (bind.IndexRange at) r s h k = h ∙ sym k
binding_once p (bind.MapTarget at m e i) r s h k = h ∙ sym k
binding_once p (bind.GlobalTwice at) r s h k = h ∙ sym k
binding_once p (bind.ReservedAccess at) r s h k = h ∙ sym k
binding_once p (bind.ControlNotStatic at) r s h k = h ∙ sym k
binding_once p bind.TraceTooLong r s h k = h ∙ sym k
binding_once p (bind.Limit c size) r s h k = h ∙ sym k
binding_once p (bind.DeclarationPlace at) r s h k = h ∙ sym k
binding_once p (bind.UnknownEntry at) r s h k = h ∙ sym k
binding_once p bind.OutOfMemory r s h k = absurd h

pub numbers_once : (e : NumbersRefusal) (r s : Refusal) → SaysNumbers e r → SaysNumbers e s → r ≡ s
numbers_once (UnknownMap name) r s h k = h ∙ sym k

partition_once : (e : PartRefusal) (r s : Refusal) → SaysPartition e r → SaysPartition e s → r ≡ s
partition_once (part.Header line) r s h k = h ∙ sym k
partition_once (part.Syntax line) r s h k = h ∙ sym k
partition_once (part.UnknownSet line) r s h k = h ∙ sym k
partition_once (part.MissingSet line) r s h k = h ∙ sym k
partition_once (part.WrongCount line) r s h k = h ∙ sym k
partition_once (part.RankRange line) r s h k = h ∙ sym k
partition_once part.OutOfMemory r s h k = absurd h

pub owners_once : (e : OwnersRefusal) (r s : Refusal) → SaysOwners e r → SaysOwners e s → r ≡ s
owners_once (NoDat name) r s h k = h ∙ sym k
owners_once (NoMap name) r s h k = h ∙ sym k
owners_once (Unspelled e) r s h k = partition_once e r s h k

pub schedule_once : (e : ScheduleTextRefusal) (r s : Refusal) → SaysSchedule e r → SaysSchedule e s → r ≡ s
schedule_once (text.Header line) r s h k = h ∙ sym k
schedule_once (text.Syntax line) r s h k = h ∙ sym k
schedule_once text.TooManySteps r s h k = h ∙ sym k
schedule_once text.OutOfMemory r s h k = absurd h

step_once : (l : Line) (e : ScheduleRefusal) (r s : Refusal) → SaysStep l e r → SaysStep l e s → r ≡ s
step_once l taking.NoSuchStep r s h k = h ∙ sym k
step_once l taking.Repeated r s h k = h ∙ sym k
step_once l (taking.TooEarly t) r s h k = h ∙ sym k
step_once l (taking.Incomplete t) r s h k = absurd h

end_once : (line : ℕ) (e : ScheduleRefusal) (r s : Refusal) → SaysEnd line e r → SaysEnd line e s → r ≡ s
end_once line taking.NoSuchStep r s h k = absurd h
end_once line taking.Repeated r s h k = absurd h
end_once line (taking.TooEarly t) r s h k = absurd h
end_once line (taking.Incomplete t) r s h k = h ∙ sym k

pub next_once : (ls : List Line) (end : ℕ) (e : ScheduleRefusal) (r s : Refusal) → SaysNext ls end e r → SaysNext ls end e s → r ≡ s
next_once [] end e r s h k = end_once end e r s h k
next_once (l ∷ ls) end e r s h k = step_once l e r s h k

-- ---- one

pub lex_said : (l : LexRefusal) → l ≢ lex.OutOfMemory → (r : Refusal) × SaysLex l r
lex_said (lex.BadByte at) n = (_, refl)
lex_said (lex.OpenComment at) n = (_, refl)
lex_said (lex.OpenText at) n = (_, refl)
lex_said (lex.NumberTooLarge at) n = (_, refl)
lex_said lex.OutOfMemory n = absurd (n refl)

pub types_said : (e : TypeRefusal) → e ≢ types.OutOfMemory → (r : Refusal) × SaysTypes e r
types_said (types.UnknownName at) n = (_, refl)
types_said (types.DuplicateName at) n = (_, refl)
types_said (types.NotAnArray at) n = (_, refl)
types_said (types.NotAScalar at) n = (_, refl)
types_said (types.AssignsCounter at) n = (_, refl)
types_said (types.AssignsConst at) n = (_, refl)
types_said (types.TooMuchWork at) n = (_, refl)
types_said types.OutOfMemory n = absurd (n refl)

pub mesh_said : (e : MeshRefusal) → e ≢ mesh.OutOfMemory → (r : Refusal) × SaysMesh e r
mesh_said (mesh.Header line) n = (_, refl)
mesh_said (mesh.Syntax line) n = (_, refl)
mesh_said (mesh.DuplicateEntry line) n = (_, refl)
mesh_said (mesh.WrongCount line) n = (_, refl)
mesh_said (mesh.NumberRange line) n = (_, refl)
mesh_said (mesh.Limit size) n = (_, refl)
mesh_said mesh.OutOfMemory n = absurd (n refl)

pub numbers_said : (e : NumbersRefusal) → (r : Refusal) × SaysNumbers e r
numbers_said (UnknownMap name) = (_, refl)

pub partition_said : (e : PartRefusal) → e ≢ part.OutOfMemory → (r : Refusal) × SaysPartition e r
partition_said (part.Header line) n = (_, refl)
partition_said (part.Syntax line) n = (_, refl)
partition_said (part.UnknownSet line) n = (_, refl)
partition_said (part.MissingSet line) n = (_, refl)
partition_said (part.WrongCount line) n = (_, refl)
partition_said (part.RankRange line) n = (_, refl)
partition_said part.OutOfMemory n = absurd (n refl)

pub schedule_said : (e : ScheduleTextRefusal) → e ≢ text.OutOfMemory → (r : Refusal) × SaysSchedule e r
schedule_said (text.Header line) n = (_, refl)
schedule_said (text.Syntax line) n = (_, refl)
schedule_said text.TooManySteps n = (_, refl)
schedule_said text.OutOfMemory n = absurd (n refl)

pub binding_said : (p : ProgramTree) (e : BindRefusal) → e ≢ bind.OutOfMemory → (r : Refusal) × SaysBinding p e r
binding_said p (bind.UnknownSet at) n = (_, refl)
binding_said p (bind.UnknownMap at) n = (_, refl)
binding_said p (bind.UnknownDat at) n = (_, refl)
binding_said p (bind.UnknownKernel at) n = (_, refl)
binding_said p (bind.ArgCount at) n = (_, refl)
binding_said p (bind.DimMismatch at) n = (_, refl)
binding_said p (bind.TypeMismatch at) n = (_, refl)
binding_said p (bind.SetMismatch at) n = (_, refl)
binding_said p (bind.IndexRange at) n = (_, refl)
binding_said p (bind.MapTarget at m e i) n = (_, refl)
binding_said p (bind.GlobalTwice at) n = (_, refl)
binding_said p (bind.ReservedAccess at) n = (_, refl)
binding_said p (bind.ControlNotStatic at) n = (_, refl)
binding_said p bind.TraceTooLong n = (_, refl)
binding_said p (bind.Limit c size) n = (_, refl)
binding_said p (bind.DeclarationPlace at) n = (_, refl)
binding_said p (bind.UnknownEntry at) n = (_, refl)
binding_said p bind.OutOfMemory n = absurd (n refl)

-- ---- the status of a source that isn't read

lex_status : (l : LexRefusal) (r : Refusal) → SaysLex l r → status_of r ≡ 5
lex_status (lex.BadByte at) r h = ap status_of h
lex_status (lex.OpenComment at) r h = ap status_of h
lex_status (lex.OpenText at) r h = ap status_of h
lex_status (lex.NumberTooLarge at) r h = ap status_of h
lex_status lex.OutOfMemory r h = absurd h

pub source_status : (e : SourceRefusal) (r : Refusal) → SaysSource e r → status_of r ≡ 5
source_status (source.Lex l) r h = lex_status l r h
source_status (source.Syntax at) r h = ap status_of h
source_status (source.TooDeep at) r h = ap status_of h
source_status source.OutOfMemory r h = absurd h
