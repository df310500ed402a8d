-- Which refusals are neither of the words nor of a missing file.
use Rattle.std.proofs.Common.{◌≡◌, inl, inr, ℕ, List, ◌∷◌, Option, Some, None, Err, refl, sym, ap, ◌∙◌, arith, []}
use Rattle.std.specs.List.{Contains}
use Rattle.c_tree.specs.Tree.{ProgramTree}
use Rattle.c_tree.specs.declared.lexer.refusals.LexRefusal.{LexRefusal}
use Rattle.c_tree.specs.declared.lexer.refusals.LexRefusal.TheVariants as lex
use Rattle.c_tree.specs.declared.refusals.SourceRefusal.{SourceRefusal}
use Rattle.c_tree.specs.declared.refusals.SourceRefusal.TheVariants as source
use Rattle.name_resolution.specs.declared.refusals.TypeRefusal.{TypeRefusal}
use Rattle.name_resolution.specs.declared.refusals.TypeRefusal.TheVariants as types
use Rattle.op_translate.specs.declared.refusals.TransRefusal.{TransRefusal}
use Rattle.op_translate.specs.declared.refusals.TransRefusal.TheVariants as trans
use Rattle.mesh_decl.specs.declared.text.entry.MeshRefusal.{MeshRefusal}
use Rattle.mesh_decl.specs.declared.text.entry.MeshRefusal.TheVariants as mesh
use Rattle.bound_program.specs.declared.refusals.refusals.BindRefusal.{BindRefusal}
use Rattle.bound_program.specs.declared.refusals.refusals.BindRefusal.TheVariants as bind
use Rattle.mesh_decl.specs.declared.owners.Owners.{Owners}
use Rattle.mesh_decl.specs.declared.owners.Perms.{Perms}
use Rattle.bound_program.specs.Values.{BoundValue}
use Rattle.op_outside.specs.Outside.{Files}
use Rattle.command_words.specs.Refusal.{Limit, Refusal, Usage, CannotRead, NoTokens, NoTree, TooDeep, BadName, BadBinding, BadTarget, BadAccess, BadMesh, BadCut, BadState, BadPart, BadPartition, BadPlan, BadSchedule, BadStep, EarlyStep, LeftStep, BadStub, BeyondLimit, StateBytes, PartitionBytes, PlanBytes, ScheduleBytes, status_of}
use Rattle.partition.specs.declared.part_text.refusals.PartRefusal.{PartRefusal}
use Rattle.partition.specs.declared.part_text.refusals.PartRefusal.TheVariants as part
use Rattle.schedule_steps.specs.declared.text.lines.Line.{Line}
use Rattle.schedule_steps.specs.declared.text.refusals.ScheduleTextRefusal.{ScheduleTextRefusal}
use Rattle.schedule_steps.specs.declared.text.refusals.ScheduleTextRefusal.TheVariants as text
use Rattle.step_judge.specs.declared.refusal.ScheduleRefusal.{ScheduleRefusal}
use Rattle.step_judge.specs.declared.refusal.ScheduleRefusal.TheVariants as taking
use Rattle.schedule_steps.specs.Outline.{Outline}
use Rattle.partition.specs.Parts.{NumbersRefusal, UnknownMap, OwnersRefusal, NoDat, NoMap, Unspelled}
use Rattle.answers.specs.Said.{SaysLex, SaysSource, SaysTypes, SaysTranslation, SaysMesh, SaysBinding, SaysNumbers, SaysPartition, SaysOwners, SaysSchedule, SaysStep, SaysEnd, SaysNext}
use Rattle.command_words.specs.Words.{Stretch, Whole, Before, From, Parting, ByRule, ByFile, Blocks, OfSize, AsPlanned, Schedule, Standard, Drawn, Written, names_before, names_by, names_in_blocks, names_at}
use Rattle.answers.specs.Judgements.{IsHeld, Cut, Uncut, BeforeItem, FromText, CutOf, ChosenIs, PartsOf, Colouring, Least, Told, ColouringOf, IsUnplanned, PlanIs, Order, InStandardOrder, BySeed, ByText, OrderOf, StepsOf}

-- ---- refusals

-- a refusal of something else than the words and missing files
abbrev pub IsOther : Refusal → Type 0
IsOther Usage = ⊥
IsOther (CannotRead n) = ⊥
IsOther r = Unit {0}

other_status : (r : Refusal) → IsOther r → status_of r ≡ 2 → ⊥
other_status Usage o e = o
other_status (CannotRead n) o e = o
other_status (NoTokens n at) o e = cc
other_status (NoTree at) o e = cc
other_status (TooDeep at) o e = cc
other_status (BadName n at) o e = cc
other_status (BadBinding n at) o e = cc
other_status (BadTarget at m x p) o e = cc
other_status (BadAccess n at) o e = cc
other_status (BadMesh n line) o e = cc
other_status (BadCut item) o e = cc
other_status (BadState n line) o e = cc
other_status (BadPart n) o e = cc
other_status (BadPartition n line) o e = cc
other_status (BadPlan n line) o e = cc
other_status (BadSchedule n line) o e = cc
other_status (BadStep n line s) o e = cc
other_status (EarlyStep line s t) o e = cc
other_status (LeftStep line t) o e = cc
other_status (BadStub n at) o e = cc
other_status (BeyondLimit l n) o e = cc

other_three : (r : Refusal) → IsOther r → status_of r ≡ 3 → ⊥
other_three Usage o e = o
other_three (CannotRead n) o e = o
other_three (NoTokens n at) o e = cc
other_three (NoTree at) o e = cc
other_three (TooDeep at) o e = cc
other_three (BadName n at) o e = cc
other_three (BadBinding n at) o e = cc
other_three (BadTarget at m x p) o e = cc
other_three (BadAccess n at) o e = cc
other_three (BadMesh n line) o e = cc
other_three (BadCut item) o e = cc
other_three (BadState n line) o e = cc
other_three (BadPart n) o e = cc
other_three (BadPartition n line) o e = cc
other_three (BadPlan n line) o e = cc
other_three (BadSchedule n line) o e = cc
other_three (BadStep n line s) o e = cc
other_three (EarlyStep line s t) o e = cc
other_three (LeftStep line t) o e = cc
other_three (BadStub n at) o e = cc
other_three (BeyondLimit l n) o e = cc

pub is_other : (r s : Refusal) → r ≡ s → IsOther s → IsOther r
is_other r s e h = rw e h

-- the files lack one of these names
abbrev pub Lack : List (List ℕ) → Files → Type 0
Lack names files = (name : List ℕ) × Contains names name × (files name ≡ None)

-- a refusal that is not of the words, and is of a missing file only where the files lack one of these names
abbrev pub IsJust : List (List ℕ) → Files → Refusal → Type 0
IsJust names files r = (status_of r ≡ 2 → ⊥) × (status_of r ≡ 3 → Lack names files)

pub just : (names : List (List ℕ)) (files : Files) (r : Refusal) → IsOther r → IsJust names files r
just names files r o = (other_status r o, λ e. absurd (other_three r o e))

pub held_just : (names : List (List ℕ)) (files : Files) (l : Limit) (name : List ℕ) (r : Refusal) → Contains names name
    → IsHeld l name (files name) (Err r)
    → IsJust names files r
held_just names files l name r c h = by (files name) refl h
  where
    by : (o : Option (List ℕ)) → files name ≡ o → IsHeld l name o (Err r) → IsJust names files r
    by None e h = (λ two. (let w : ◌≡◌ {A = ℕ} 3 2 = sym (ap status_of h) ∙ two in cc), λ three. (name, c, e))
    by (Some held) e h = just names files r (is_other r _ h.0 tt)

lex_other : (l : LexRefusal) (r : Refusal) → SaysLex l r → IsOther r
lex_other (lex.BadByte at) r h = is_other r _ h tt
lex_other (lex.OpenComment at) r h = is_other r _ h tt
lex_other (lex.OpenText at) r h = is_other r _ h tt
lex_other (lex.NumberTooLarge at) r h = is_other r _ h tt
lex_other lex.OutOfMemory r h = absurd h

pub source_other : (e : SourceRefusal) (r : Refusal) → SaysSource e r → IsOther r
source_other (source.Lex l) r h = lex_other l r h
source_other (source.Syntax at) r h = is_other r _ h tt
source_other (source.TooDeep at) r h = is_other r _ h tt
source_other source.OutOfMemory r h = absurd h

pub translation_other : (e : TransRefusal) (r : Refusal) → SaysTranslation e r → IsOther r
translation_other (trans.NameTaken at) r h = is_other r _ h tt
translation_other (trans.NoCall at) r h = is_other r _ h tt
translation_other (trans.LoopLeft at) r h = is_other r _ h tt
translation_other (trans.Lex l) r h = lex_other l r h
translation_other trans.OutOfMemory r h = absurd h

pub types_other : (e : TypeRefusal) (r : Refusal) → SaysTypes e r → IsOther r
types_other (types.UnknownName at) r h = is_other r _ h tt
types_other (types.DuplicateName at) r h = is_other r _ h tt
types_other (types.NotAnArray at) r h = is_other r _ h tt
types_other (types.NotAScalar at) r h = is_other r _ h tt
types_other (types.AssignsCounter at) r h = is_other r _ h tt
types_other (types.AssignsConst at) r h = is_other r _ h tt
types_other (types.TooMuchWork at) r h = is_other r _ h tt
types_other types.OutOfMemory r h = absurd h

pub mesh_other : (e : MeshRefusal) (r : Refusal) → SaysMesh e r → IsOther r
mesh_other (mesh.Header line) r h = is_other r _ h tt
mesh_other (mesh.Syntax line) r h = is_other r _ h tt
mesh_other (mesh.DuplicateEntry line) r h = is_other r _ h tt
mesh_other (mesh.WrongCount line) r h = is_other r _ h tt
mesh_other (mesh.NumberRange line) r h = is_other r _ h tt
mesh_other (mesh.Limit size) r h = is_other r _ h tt
mesh_other mesh.OutOfMemory r h = absurd h

pub binding_other : (p : ProgramTree) (e : BindRefusal) (r : Refusal) → SaysBinding p e r → IsOther r
binding_other p (bind.UnknownSet at) r h = is_other r _ h tt
binding_other p (bind.UnknownMap at) r h = is_other r _ h tt
binding_other p (bind.UnknownDat at) r h = is_other r _ h tt
binding_other p (bind.UnknownKernel at) r h = is_other r _ h tt
binding_other p (bind.ArgCount at) r h = is_other r _ h tt
binding_other p (bind.DimMismatch at) r h = is_other r _ h tt
binding_other p (bind.TypeMismatch at) r h = is_other r _ h tt
binding_other p (bind.SetMismatch at) r h = is_other r _ h tt
binding_other p (bind.IndexRange at) r h = is_other r _ h tt
binding_other p (bind.MapTarget at m e i) r h = is_other r _ h tt
binding_other p (bind.GlobalTwice at) r h = is_other r _ h tt
binding_other p (bind.ReservedAccess at) r h = is_other r _ h tt
binding_other p (bind.ControlNotStatic at) r h = is_other r _ h tt
binding_other p bind.TraceTooLong r h = is_other r _ h tt
binding_other p (bind.Limit c size) r h = is_other r _ h tt
binding_other p (bind.DeclarationPlace at) r h = is_other r _ h tt
binding_other p (bind.UnknownEntry at) r h = is_other r _ h tt
binding_other p bind.OutOfMemory r h = absurd h

pub numbers_other : (e : NumbersRefusal) (r : Refusal) → SaysNumbers e r → IsOther r
numbers_other (UnknownMap name) r h = is_other r _ h tt

partition_other : (e : PartRefusal) (r : Refusal) → SaysPartition e r → IsOther r
partition_other (part.Header line) r h = is_other r _ h tt
partition_other (part.Syntax line) r h = is_other r _ h tt
partition_other (part.UnknownSet line) r h = is_other r _ h tt
partition_other (part.MissingSet line) r h = is_other r _ h tt
partition_other (part.WrongCount line) r h = is_other r _ h tt
partition_other (part.RankRange line) r h = is_other r _ h tt
partition_other part.OutOfMemory r h = absurd h

pub owners_other : (e : OwnersRefusal) (r : Refusal) → SaysOwners e r → IsOther r
owners_other (NoDat name) r h = is_other r _ h tt
owners_other (NoMap name) r h = is_other r _ h tt
owners_other (Unspelled e) r h = partition_other e r h

-- those of the names that a state, a partition, a plan and a schedule come from
abbrev pub Has : (names of : List (List ℕ)) → Type 0
Has names of = (name : List ℕ) → Contains of name → Contains names name

pub one : (name : List ℕ) → Contains (name ∷ []) name
one name = (0, omega arith, refl)

pub cut_just : (names : List (List ℕ)) (x : Stretch) → Has names (names_before x) → (files : Files) (r : Refusal) → CutOf x files (Err r) → IsJust names files r
cut_just names Whole has files r h = absurd (let bad : ⊥ = cc in bad)
cut_just names (Before item) has files r h = absurd (let bad : ⊥ = cc in bad)
cut_just names (From name) has files r h = held_just names files StateBytes name r (has name (one name)) h

pub chosen_other : (cut : Cut) (b : BoundValue) (r : Refusal) → ChosenIs cut b (Err r) → IsOther r
chosen_other Uncut b r h = absurd (let bad : ⊥ = cc in bad)
chosen_other (BeforeItem item) b r h = is_other r _ h.1 tt
chosen_other (FromText bytes) b r h = is_other r _ h.3 tt

pub parts_just : (names : List (List ℕ)) (p : Parting) → Has names (names_by p) → (files : Files) (r : Refusal) → PartsOf p files (Err r) → IsJust names files r
parts_just names (ByRule rule) has files r h = absurd (let bad : ⊥ = cc in bad)
parts_just names (ByFile name) has files r h = held_just names files PartitionBytes name r (has name (one name)) h

pub order_just : (names : List (List ℕ)) (s : Schedule) → Has names (names_at s) → (files : Files) (r : Refusal) → OrderOf s files (Err r) → IsJust names files r
order_just names Standard has files r h = absurd (let bad : ⊥ = cc in bad)
order_just names (Drawn seed) has files r h = absurd (let bad : ⊥ = cc in bad)
order_just names (Written name) has files r h = held_just names files ScheduleBytes name r (has name (one name)) h

pub colouring_just : (names : List (List ℕ)) (x : Blocks) → Has names (names_in_blocks x) → (files : Files) (r : Refusal) → ColouringOf x files (Err r) → IsJust names files r
colouring_just names (OfSize places) has files r h = absurd (let bad : ⊥ = cc in bad)
colouring_just names (AsPlanned name) has files r h = held_just names files PlanBytes name r (has name (one name)) h

pub plan_other : (x : Colouring) (b : BoundValue) (u : Owners) (n : Perms) (r : Refusal) → PlanIs x b u n (Err r) → IsOther r
plan_other x b u n r h = by_cause x h.2
  where
    by_cause : (y : Colouring) → IsUnplanned y b h.0.ranks.items r → IsOther r
    by_cause (Least places) (inl k) = absurd k
    by_cause (Told bytes) (inl k) = is_other r _ k.3 tt
    by_cause y (inr k) = is_other r _ k.says tt

schedule_other : (e : ScheduleTextRefusal) (r : Refusal) → SaysSchedule e r → IsOther r
schedule_other (text.Header line) r h = is_other r _ h tt
schedule_other (text.Syntax line) r h = is_other r _ h tt
schedule_other text.TooManySteps r h = is_other r _ h tt
schedule_other text.OutOfMemory r h = absurd h

step_other : (l : Line) (e : ScheduleRefusal) (r : Refusal) → SaysStep l e r → IsOther r
step_other l taking.NoSuchStep r h = is_other r _ h tt
step_other l taking.Repeated r h = is_other r _ h tt
step_other l (taking.TooEarly t) r h = is_other r _ h tt
step_other l (taking.Incomplete t) r h = absurd h

end_other : (line : ℕ) (e : ScheduleRefusal) (r : Refusal) → SaysEnd line e r → IsOther r
end_other line taking.NoSuchStep r h = absurd h
end_other line taking.Repeated r h = absurd h
end_other line (taking.TooEarly t) r h = absurd h
end_other line (taking.Incomplete t) r h = is_other r _ h tt

next_other : (ls : List Line) (end : ℕ) (e : ScheduleRefusal) (r : Refusal) → SaysNext ls end e r → IsOther r
next_other [] end e r h = end_other end e r h
next_other (l ∷ ls) end e r h = step_other l e r h

pub steps_other : (o : Outline) (g : ℕ) (order : Order) (r : Refusal) → StepsOf o g order (Err r) → IsOther r
steps_other o g InStandardOrder r h = absurd (let bad : ⊥ = cc in bad)
steps_other o g (BySeed seed) r h = absurd h
steps_other o g (ByText bytes) r (inl h) = schedule_other h.0 r h.2
steps_other o g (ByText bytes) r (inr h) = next_other h.2.rest _ h.2.refusal r h.2.says
