-- What the program can refuse, and the status that it ends with then.
use Rattle.std.specs.Prelude.{ℕ, List}
use Rattle.c_tree.specs.declared.lexer.tokens.Pos.{Pos}
use Rattle.schedule_steps.specs.declared.step.Step.{Step}

-- a size that has a limit
pub data Limit : Type 0 where
  SourceBytes : Limit
  MeshBytes : Limit
  MeshValues : Limit
  Sets : Limit
  Maps : Limit
  Dats : Limit
  SetSize : Limit
  Dim : Limit
  MeshCells : Limit
  Arguments : Limit
  Trace : Limit
  PrintWeight : Limit
  StateBytes : Limit
  PartitionBytes : Limit
  PlanBytes : Limit
  Steps : Limit
  ScheduleBytes : Limit
  ScheduleSteps : Limit

-- One constructor for each line that the program writes about its words and its files.
pub data Refusal : Type 0 where
  -- the words are not those of a command
  Usage : Refusal
  -- the file of that name cannot be read
  CannotRead : (name : List ℕ) → Refusal
  -- the source has no tokens
  NoTokens : (number : ℕ) (at : Pos) → Refusal
  -- the source has no tree
  NoTree : (at : Pos) → Refusal
  -- the tree of the source has too many levels
  TooDeep : (at : Pos) → Refusal
  -- a rule on names and types is broken
  BadName : (number : ℕ) (at : Pos) → Refusal
  -- the source can't be bound to the mesh
  BadBinding : (number : ℕ) (at : Pos) → Refusal
  -- a map leads to no element
  BadTarget : (at : Pos) (map : List ℕ) (element place : ℕ) → Refusal
  -- a kernel doesn't keep to the accesses of its arguments
  BadAccess : (number : ℕ) (at : Pos) → Refusal
  -- the mesh text spells no entries
  BadMesh : (number line : ℕ) → Refusal
  -- the program can't be cut before the item of that number
  BadCut : (item : ℕ) → Refusal
  -- the text of a state tells none of the program
  BadState : (number line : ℕ) → Refusal
  -- no dat or no map has the name that owners or new numbers are asked for by
  BadPart : (name : List ℕ) → Refusal
  -- the text of a partition spells no owners of the mesh
  BadPartition : (number line : ℕ) → Refusal
  -- the text of a plan gives none of the program
  BadPlan : (number line : ℕ) → Refusal
  -- the text of a schedule spells no steps
  BadSchedule : (number line : ℕ) → Refusal
  -- a step of a schedule that the plan hasn't, or that was taken
  BadStep : (number line : ℕ) → Step → Refusal
  -- a step of a schedule before one that has to come first
  EarlyStep : (line : ℕ) (step missing : Step) → Refusal
  -- a step of the plan that a schedule hasn't; its text ends on that line
  LeftStep : (line : ℕ) (missing : Step) → Refusal
  -- a source can't be translated or restored
  BadStub : (number : ℕ) (at : Pos) → Refusal
  -- a size is beyond its limit
  BeyondLimit : Limit → (size : ℕ) → Refusal

-- the status that the program ends with
abbrev pub status_of : Refusal → ℕ
status_of Usage = 2
status_of (CannotRead name) = 3
status_of (NoTokens n at) = 5
status_of (NoTree at) = 5
status_of (TooDeep at) = 5
status_of (BadName n at) = 5
status_of (BadBinding n at) = 5
status_of (BadTarget at map e p) = 5
status_of (BadAccess n at) = 5
status_of (BadMesh n line) = 6
status_of (BadCut item) = 13
status_of (BadState n line) = 13
status_of (BadPart name) = 7
status_of (BadPartition n line) = 7
status_of (BadPlan n line) = 12
status_of (BadSchedule n line) = 8
status_of (BadStep n line s) = 8
status_of (EarlyStep line s t) = 8
status_of (LeftStep line t) = 8
status_of (BadStub n at) = 14
status_of (BeyondLimit l size) = 10
