-- What a file says is one thing, and a state that was written is what it says.
use Rattle.std.specs.Prelude.{◌≡◌, ℕ, ◌<◌, ◌^◌, ◌⊎◌, FitsSigned, List, ◌++◌, All, length}
use Rattle.std.specs.Int.{w32}
use Rattle.c_tree.specs.Spelling.{IsName}
use Rattle.op_num.specs.CutLines.{HasNoLf}
use Rattle.mesh_decl.specs.declared.decl.SetDecl.{SetDecl}
use Rattle.mesh_decl.specs.declared.decl.DatDecl.{DatDecl}
use Rattle.mesh_decl.specs.Mesh.{MeshValue, IsMesh}
use Rattle.bound_program.specs.Values.{BoundValue}
use Rattle.schedule_model.specs.Cells.{Store, InRange}
use Rattle.checkpoint.specs.Cut.{StateValue, CanCut, HasShape, state_at}
use Rattle.checkpoint.specs.StateText.{state_text}
use Rattle.checkpoint.specs.Reading.{Says, SaysNone}

-- one state, where decimals of 64 bits number the items
abbrev pub SaysOneState : Type 0
SaysOneState =
    (b : BoundValue) (bytes : List ℕ) (s t : StateValue) → length b.trace < 2 ^ 64 → Says b bytes s → Says b bytes t → s ≡ t

-- one refusal, by one number and at one line
abbrev pub SaysOneRefusal : Type 0
SaysOneRefusal =
    (b : BoundValue) (bytes : List ℕ) (number other line at : ℕ)
    → SaysNone b bytes number line → SaysNone b bytes other at → (number ≡ other) × (line ≡ at)

-- bytes don't both say a state and say none
abbrev pub SaysNotBoth : Type 0
SaysNotBoth = (b : BoundValue) (bytes : List ℕ) (s : StateValue) (number line : ℕ) → Says b bytes s → SaysNone b bytes number line → ⊥

-- bytes always say a state or none, where the dats have as many values as their sets and dims say
abbrev pub SaysSomething : Type 0
SaysSomething =
    (b : BoundValue) (bytes : List ℕ) → IsMesh b.mesh
    → ((s : StateValue) × Says b bytes s) ⊎ ((number : ℕ) × (line : ℕ) × SaysNone b bytes number line)

-- ---- what was written

-- the names that the text of a state has end no line
pub record HasPlainNames (g : MeshValue) : Type 0 where
  pub sets : All (λ (d : SetDecl). HasNoLf d.name) g.sets
  pub dats : All (λ (d : DatDecl). HasNoLf d.name) g.dats

-- the values are of 32 bits
pub record HasI32 (s : StateValue) : Type 0 where
  pub vars : All (All (FitsSigned w32)) s.vars
  pub dats : All (All (FitsSigned w32)) s.dats

-- a state that was written behind any bytes is what these say
abbrev pub WrittenStatesAreRead : Type 0
WrittenStatesAreRead =
    (b : BoundValue) (o : List ℕ) (s : StateValue)
    → IsMesh b.mesh → HasPlainNames b.mesh → CanCut b s.item → HasShape b s → HasI32 s → Says b (o ++ state_text b s) s

-- the bytes say this state, in a text that stands behind these
pub record SaysBehind (b : BoundValue) (bytes front : List ℕ) (s : StateValue) : Type 0 where
  pub says : Says b bytes s
  pub there : says.before ≡ front

-- the text of the state before an item says that state, whatever its values of 32 bits, and stands where it was written
abbrev pub CutsAreRead : Type 0
CutsAreRead =
    (b : BoundValue) (o : List ℕ) (k : ℕ) (s : Store)
    → IsMesh b.mesh → HasPlainNames b.mesh → CanCut b k → InRange s
    → SaysBehind b (o ++ state_text b (state_at b k s)) o (state_at b k s)

-- C names end no line
abbrev pub NamesArePlain : Type 0
NamesArePlain = (x : List ℕ) → IsName x → HasNoLf x
