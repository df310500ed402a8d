-- What words ask for, and the files that it names.
use Rattle.std.specs.Prelude.{ℕ, Bool, nat_eq, List, [], ◌∷◌, ◌++◌, Option, if◌then◌else◌}
use Rattle.mesh_decl.specs.declared.text.entry.Form.{Form}
use Rattle.partition.specs.Parts.{Parts}
use Rattle.command_words.specs.declared.limits.TheConstants.{MAX_GROUP}

-- what is done with the plan of a program: its sizes are told, or its text or a schedule of it is written, or the program runs by it
pub data PlanJob : Type 0 where
  Check : PlanJob
  ShowsPlan : PlanJob
  ShowsSchedule : PlanJob
  RunsPlan : PlanJob

-- who owns which element: by a rule, or as the file of this name says
pub data Parting : Type 0 where
  ByRule : Parts → Parting
  ByFile : (name : List ℕ) → Parting

-- in which order the steps of a plan are taken: in the standard order, in the one drawn by a seed, or as the file of this name says
pub data Schedule : Type 0 where
  Standard : Schedule
  Drawn : (seed : ℕ) → Schedule
  Written : (name : List ℕ) → Schedule

-- which items of a program run: all of them; those before this one, behind which the state there is printed; or those from the item of
-- a state on, which the file of this name tells, begun with its values
pub data Stretch : Type 0 where
  Whole : Stretch
  Before : (item : ℕ) → Stretch
  From : (name : List ℕ) → Stretch

-- blocks and colours of a plan: least colours in blocks of this many places, or as the file of this name says
pub data Blocks : Type 0 where
  OfSize : (places : ℕ) → Blocks
  AsPlanned : (name : List ℕ) → Blocks

-- how a program runs on ranks: which of its items; how many ranks; who owns which element; new numbers by the map of this name, or
-- none; blocks and colours; in which order the steps are taken, and by how many workers; and whether the memories are dumped behind the
-- output
pub record Options : Type 0 where
  pub stretch : Stretch
  pub ranks : ℕ
  pub parting : Parting
  pub renumber : Option (List ℕ)
  pub blocks : Blocks
  pub schedule : Schedule
  pub workers : ℕ
  pub dumps : Bool

-- what is done with a program by chains: its chains and messages are counted, or it runs by them
pub data ChainJob : Type 0 where
  CountsChains : ChainJob
  RunsChains : ChainJob

-- how a program runs by chains: on how many ranks; who owns which element; and whether the stores are dumped behind the output
pub record ChainOptions : Type 0 where
  pub ranks : ℕ
  pub parting : Parting
  pub dumps : Bool

-- how many places of one colour are begun together at most: one worker begins them one by one
abbrev pub group_of : Options → ℕ
group_of o = if nat_eq o.workers 1 then 1 else MAX_GROUP

-- where a source and a mesh come from: from the files of these names, or they are the sample on a grid of this many cells a side
pub data Input : Type 0 where
  InFiles : (source mesh : List ℕ) → Input
  OfSample : (side : ℕ) → Input

-- What the words ask for: a job on the plan of a program over a mesh, or on its chains, with these options; the mesh text in a file
-- written again, in a version of the format; the source in a file translated, so that each loop call is a call of its own stub, or
-- restored; or what the program says of itself.
pub data Command : Type 0 where
  OnPlan : PlanJob → Options → Input → Command
  OnChains : ChainJob → ChainOptions → Input → Command
  Converts : Form → (mesh : List ℕ) → Command
  Translates : (source : List ℕ) → Command
  Restores : (source : List ℕ) → Command
  ShowsUsage : Command
  ShowsVersion : Command

-- ---- the files that they name

-- those that a source and a mesh come from
abbrev pub names_from : Input → List (List ℕ)
names_from (InFiles source mesh) = source ∷ mesh ∷ []
names_from (OfSample side) = []

-- the one that a state comes from, where it does
abbrev pub names_before : Stretch → List (List ℕ)
names_before Whole = []
names_before (Before item) = []
names_before (From name) = name ∷ []

-- the one that owners come from, where they do
abbrev pub names_by : Parting → List (List ℕ)
names_by (ByRule parts) = []
names_by (ByFile name) = name ∷ []

-- the one that blocks and colours come from, where they do
abbrev pub names_in_blocks : Blocks → List (List ℕ)
names_in_blocks (OfSize places) = []
names_in_blocks (AsPlanned name) = name ∷ []

-- the one that a schedule comes from, where it does
abbrev pub names_at : Schedule → List (List ℕ)
names_at Standard = []
names_at (Drawn seed) = []
names_at (Written name) = name ∷ []

-- those of a command
abbrev pub names_of : Command → List (List ℕ)
names_of (OnPlan j o input) =
    names_from input ++ names_before o.stretch ++ names_by o.parting ++ names_in_blocks o.blocks ++ names_at o.schedule
names_of (OnChains j o input) = names_from input ++ names_by o.parting
names_of (Converts form mesh) = mesh ∷ []
names_of (Translates source) = source ∷ []
names_of (Restores source) = source ∷ []
names_of ShowsUsage = []
names_of ShowsVersion = []
