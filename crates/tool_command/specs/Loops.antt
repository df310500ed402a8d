-- What is said of the loop that a line of `op2` is about.
use Rattle.std.specs.Prelude.{◌≡◌, ℕ, Bool, true, false, nat_lt, List, [], ◌∷◌, ◌++◌, length, Option, Some, None, Ok, Err, ◌⊎◌, codes, if◌then◌else◌}
use Rattle.std.specs.Fmt.{decimal}
use Rattle.op_outside.specs.Outside.{Files}
use Rattle.bound_program.specs.Values.{BoundValue}
use Rattle.explanations.specs.Faults.{tells_fault, item_in, shown_item}
use Rattle.explanations.specs.Values.{free_loop_in, shown_arguments}
use Rattle.explanations.specs.Judgements.{judgement_in}
use Rattle.explanations.specs.Accesses.{IsTold}
use Rattle.command_words.specs.Refusal.{Refusal}
use Rattle.command_words.specs.Words.{Input, InFiles, OfSample}
use Rattle.command_words.specs.declared.answer_lines.limits.TheConstants.{STATE_BYTES}
use Rattle.command_words.specs.Lines.{Answer, refused}
use Rattle.answers.specs.Judgements.{FromText, Chosen, ChosenIs}
use Rattle.answers.specs.Answers.{Answers, BoundAnswers}
use Rattle.job_inputs.specs.Inputs.{IsBoundIn}
use Rattle.job_inputs.specs.Chains.{Never}
use Rattle.tool_command.specs.Named.{ProgramNamed}

-- ---- the values before an item

-- the words of a call that writes the state before an item
abbrev pub state_words : (source mesh : List ℕ) (item : ℕ) → List (List ℕ)
state_words source mesh item =
    codes "op2" ∷ codes "state" ∷ codes "--at" ∷ decimal item ∷ codes "--" ∷ source ∷ mesh ∷ []

-- what was written, where it is no more than a file of a state may have
abbrev pub as_state : (out : List ℕ) → List ℕ
as_state out = if nat_lt STATE_BYTES (length out) then [] else out

-- what a state says of the arguments of a loop, where what was written tells one: the program that goes on from there begins with them
abbrev pub StateTells : (out : List ℕ) → BoundValue → (line : List ℕ) (site : ℕ) (text : List ℕ) → Type 0
StateTells out b line site text =
    ((c : Chosen) × ChosenIs (FromText (as_state out)) b (Ok c) × (text ≡ shown_arguments c.program line site))
    ⊎ ((r : Refusal) × ChosenIs (FromText (as_state out)) b (Err r) × (text ≡ []))

-- the same by the state that `op2` writes before this item
abbrev pub AreTold : (source mesh : List ℕ) → Files → BoundValue → (line : List ℕ) (item site : ℕ) (text : List ℕ) → Type 0
AreTold source mesh files b line item site text =
    (x : Answer) × Answers (state_words source mesh item) files x × StateTells x.out b line site text

-- the files of the source and the mesh, if they come from files
abbrev pub files_from : Input → Option (List ℕ × List ℕ)
files_from (InFiles source mesh) = Some (source, mesh)
files_from (OfSample side) = None

-- those of a program whose run begins where it does
abbrev pub files_begun : ProgramNamed → Option (List ℕ × List ℕ)
files_begun p = if p.from_start then files_from p.input else None

-- what is said of an item that runs this Free loop, where there are these files
abbrev pub ValuesOf : Option (List ℕ × List ℕ) → Files → BoundValue → (line : List ℕ) (item site : Option ℕ) (text : List ℕ) → Type 0
ValuesOf (Some names) files b line (Some item) (Some site) text = AreTold names.0 names.1 files b line item site text
ValuesOf names files b line item site text = text ≡ []

-- ---- faults

-- what is said of a fault of this bound program: the loop that its item runs, and its turn; and where that is a Free loop, what it handed
-- to its kernel before the item
abbrev pub FaultOf : ProgramNamed → Files → BoundValue → (line source text : List ℕ) → Type 0
FaultOf p files b line source text =
    (values : List ℕ)
    × ValuesOf (files_begun p) files b line (item_in line) (free_loop_in b line) values
    × (text ≡ shown_item b source (item_in line) ++ values)

-- The same of a program over files. Nothing is said where it is refused, which has no fault then.
abbrev pub LoopOver : ProgramNamed → Files → (line source text : List ℕ) → Type 0
LoopOver p files line source text =
    ((b : BoundValue) × IsBoundIn p.input b files × FaultOf p files b line source text)
    ⊎ ((r : Refusal) × BoundAnswers Never p.input files (refused r) × (text ≡ []))

-- the same, where there is a program
abbrev pub LoopIsTold : Option ProgramNamed → Files → (line source text : List ℕ) → Type 0
LoopIsTold None files line source text = text ≡ []
LoopIsTold (Some p) files line source text = LoopOver p files line source text

-- ---- any line

-- of a fault, the loop in which it is; of a refused access, the loop that asks for it
abbrev pub LoopBy : (is_fault : Bool) → Option ProgramNamed → Files → (line source text : List ℕ) → Type 0
LoopBy true p files line source text = LoopIsTold p files line source text
LoopBy false p files line source text = IsTold source (judgement_in line) text

-- of a line, over the source
abbrev pub LoopOfSource : Option ProgramNamed → Files → (line source text : List ℕ) → Type 0
LoopOfSource p files line source text = LoopBy (tells_fault line) p files line source text

-- the same, where there is a source
abbrev pub LoopOf : Option ProgramNamed → Files → (line : List ℕ) → (source : Option (List ℕ)) → (text : List ℕ) → Type 0
LoopOf p files line None text = text ≡ []
LoopOf p files line (Some source) text = LoopOfSource p files line source text
