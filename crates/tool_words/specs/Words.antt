-- The words of the command line of `op2-tools`, by `clap`'s own model of the command.
use Rattle.std.specs.Prelude.{◌≡◌, ℕ, ◌-◌, Bool, true, false, not, ◌&&◌, ◌⊎◌, nat_lt, List, [], ◌∷◌, ◌++◌, map, Option, Some, None, codes, if◌then◌else◌, option_and_then, option_map, is_some}
use Rattle.std.specs.Str.{bytes_eq}
use Rattle.clap.specs.Walk.{Rule, Row, first_of}
use Rattle.clap.specs.Simple.{App, new_app, matches_of}
use Rattle.clap.specs.Kinds.{IsAmong}
use Rattle.clap.specs.Faults.{fault_of}
use Rattle.clap.specs.declared.error.kind.ErrorKind.{ErrorKind}
use Rattle.clap.specs.declared.error.kind.ErrorKind.TheVariants as kind
use Rattle.op_num.specs.Spelling.{number_of}
use Rattle.cell_numbers.specs.declared.types.Shown.{Shown}
use Rattle.cell_numbers.specs.declared.types.Shown.TheVariants as shown
use Rattle.gmsh_mesh.specs.declared.choice.Dimension.{Dimension}
use Rattle.gmsh_mesh.specs.declared.choice.Dimension.TheVariants as dimension
use Rattle.command_words.specs.Words.{Options, OptionWords, options_of, chain_options_of, runs_nothing, positional, option, flag, versioned, with_rules, is_set}

-- What is done with a program over a mesh: the dat that it prints with this text as its file, behind so many such dats, is picked out of
-- the output in a file; the graph of neighbours by the map of this name is written; or owners on so many ranks are, of which a graph
-- partitioner wrote those of this set in a file.
pub data ProgramJob : Type 0 where
  Picks : (output file : List ℕ) (earlier : ℕ) → ProgramJob
  Graphs : (map : List ℕ) → ProgramJob
  TakesOwners : (ranks : ℕ) (file set : List ℕ) → ProgramJob

-- What is shown of a mesh: where its nodes lie by a dat, which nodes its cells have by a map, and what the numbers of the cells say.
pub record Picture : Type 0 where
  pub coords : List ℕ
  pub cells : List ℕ
  pub shown : Shown

-- What is done with the plan of a program over a mesh: who owns which element there is written; what it costs is told loop by loop, for a
-- reader or for a script; a picture of the mesh is drawn; or its grid is written for VTK, with what a run printed where the file of its
-- output is named.
pub data PlanJob : Type 0 where
  TellsOwners : PlanJob
  Counts : (plain : Bool) → PlanJob
  Draws : Picture → PlanJob
  Grids : Picture → (output : Option (List ℕ)) → PlanJob

-- What the words ask for: a job on the program in a file over the mesh in a file, or on its plan with these options; the mesh text of the
-- mesh of Gmsh in a file, of this dimension or that of its elements, at this scale, or a program for it; what a call of `op2` with these
-- words, the program's name first, answers, explained; or what the program says of itself.
pub data Command : Type 0 where
  OnProgram : ProgramJob → (source mesh : List ℕ) → Command
  OnPlan : PlanJob → Options → (source mesh : List ℕ) → Command
  Converts : (file : List ℕ) → Option Dimension → (scale : ℕ) → (writes_source : Bool) → Command
  Explains : (call : List (List ℕ)) → Command
  ShowsUsage : Command
  ShowsVersion : Command

-- ---- the command as `clap` has it

-- the words that a job takes, which needn't all stand
abbrev pub places : List (List ℕ)
places = codes "FIRST" ∷ codes "SECOND" ∷ codes "THIRD" ∷ codes "FOURTH" ∷ codes "FIFTH" ∷ []

-- the options with one value, those of `op2` for a plan first
abbrev pub options : List (List ℕ)
options =
    codes "ranks" ∷ codes "parts" ∷ codes "partition" ∷ codes "renumber" ∷ codes "block" ∷ codes "plan" ∷ codes "coords" ∷ codes "cells"
    ∷ codes "halos" ∷ codes "colours" ∷ codes "output" ∷ codes "metis" ∷ codes "set"
    ∷ codes "scale" ∷ codes "dim" ∷ []

-- the options with none
abbrev pub flags : List (List ℕ)
flags = codes "plain" ∷ codes "source" ∷ []

-- its words, and then its options
abbrev pub rules : List Rule
rules = (positional true (codes "JOB") ∷ map (positional false) places) ++ map option options ++ map flag flags

-- `op2-tools JOB WORD ..` with these options, `--help` and `--version`
abbrev pub command : App
command = with_rules (versioned (new_app (codes "op2-tools"))) rules

-- ---- what its matches mean

-- the values of the options of single jobs
pub record OwnWords : Type 0 where
  pub coords : Option (List ℕ)
  pub cells : Option (List ℕ)
  pub halos : Option (List ℕ)
  pub colours : Option (List ℕ)
  pub output : Option (List ℕ)
  pub plain : Bool
  pub metis : Option (List ℕ)
  pub set : Option (List ℕ)
  pub scale : Option (List ℕ)
  pub dim : Option (List ℕ)
  pub source : Bool

-- the words behind the job's name, and the values of the options of a plan and of those of single jobs
pub record Given : Type 0 where
  pub first : Option (List ℕ)
  pub second : Option (List ℕ)
  pub third : Option (List ℕ)
  pub fourth : Option (List ℕ)
  pub fifth : Option (List ℕ)
  pub planning : OptionWords
  pub own : OwnWords

-- the options of a plan; those of `op2` that the command hasn't don't stand
abbrev pub planning_in : List Row → OptionWords
planning_in rows = record {
  form = None;
  ranks = first_of (codes "ranks") rows;
  parts = first_of (codes "parts") rows;
  partition = first_of (codes "partition") rows;
  renumber = first_of (codes "renumber") rows;
  block = first_of (codes "block") rows;
  plan = first_of (codes "plan") rows;
  at = None;
  from = None;
  schedule = None;
  seed = None;
  workers = None;
  chains = false;
  dumps = false;
}

-- those of single jobs
abbrev pub own_in : List Row → OwnWords
own_in rows = record {
  coords = first_of (codes "coords") rows;
  cells = first_of (codes "cells") rows;
  halos = first_of (codes "halos") rows;
  colours = first_of (codes "colours") rows;
  output = first_of (codes "output") rows;
  plain = is_set (first_of (codes "plain") rows);
  metis = first_of (codes "metis") rows;
  set = first_of (codes "set") rows;
  scale = first_of (codes "scale") rows;
  dim = first_of (codes "dim") rows;
  source = is_set (first_of (codes "source") rows);
}

-- all words
abbrev pub given_in : List Row → Given
given_in rows = record {
  first = first_of (codes "FIRST") rows;
  second = first_of (codes "SECOND") rows;
  third = first_of (codes "THIRD") rows;
  fourth = first_of (codes "FOURTH") rows;
  fifth = first_of (codes "FIFTH") rows;
  planning = planning_in rows;
  own = own_in rows;
}

-- none of the options of a picture stands
abbrev pub names_no_picture : OwnWords → Bool
names_no_picture w = not (is_some w.coords) && not (is_some w.cells) && not (is_some w.halos) && not (is_some w.colours)

-- none of those of a mesh of Gmsh stands
abbrev pub names_no_mesh : OwnWords → Bool
names_no_mesh w = not (is_some w.scale) && not (is_some w.dim) && not w.source

-- none of the options of single jobs stands
abbrev pub are_bare : OwnWords → Bool
are_bare w =
    names_no_picture w && not (is_some w.output) && not w.plain && not (is_some w.metis) && not (is_some w.set) && names_no_mesh w

-- no option stands
abbrev pub has_no_option : Given → Bool
has_no_option g = runs_nothing g.planning && are_bare g.own

-- no option stands of a job other than those with a picture
abbrev pub has_picture_alone : OwnWords → Bool
has_picture_alone w = are_bare (record w { coords = None; cells = None; halos = None; colours = None })

-- the same, beside the file of an output
abbrev pub has_grid_alone : OwnWords → Bool
has_grid_alone w = has_picture_alone (record w { output = None })

-- no option stands of a job other than what it costs
abbrev pub has_plain_alone : OwnWords → Bool
has_plain_alone w = are_bare (record w { plain = false })

-- no option stands of a job other than owners
abbrev pub has_metis_alone : OwnWords → Bool
has_metis_alone w = are_bare (record w { metis = None; set = None })

-- no option stands of a job other than a mesh of Gmsh
abbrev pub has_mesh_alone : OwnWords → Bool
has_mesh_alone w = are_bare (record w { scale = None; dim = None; source = false })

-- of the options of a plan none but the number of ranks stands
abbrev pub has_ranks_alone : OptionWords → Bool
has_ranks_alone w = runs_nothing (record w { ranks = None })

-- a command, where its options allow it
abbrev pub where_so : (allowed : Bool) → Option Command → Option Command
where_so allowed c = if allowed then c else None

-- how many come before the one of a number from 1 on, below 2 ^ 32, in decimal digits; none where no word says which
abbrev pub earlier_than : Option (List ℕ) → Option ℕ
earlier_than None = Some 0
earlier_than (Some word) = option_and_then (λ n. if nat_lt 0 n && nat_lt n 4294967296 then Some (n - 1) else None) (number_of word)

-- ---- jobs

-- SOURCE MESH OUTPUT FILE [N]
abbrev pub picked : (source mesh output file number : Option (List ℕ)) → Option Command
picked (Some source) (Some mesh) (Some output) (Some file) number =
    option_map (λ n. OnProgram (Picks output file n) source mesh) (earlier_than number)
picked _ _ _ _ number = None

-- SOURCE MESH MAP
abbrev pub graphed : (source mesh map fourth : Option (List ℕ)) → Option Command
graphed (Some source) (Some mesh) (Some map) None = Some (OnProgram (Graphs map) source mesh)
graphed _ _ _ _ = None

-- SOURCE MESH, with the options of a plan
abbrev pub planned : PlanJob → (source mesh third : Option (List ℕ)) → OptionWords → Option Command
planned job (Some source) (Some mesh) None w = option_map (λ o. OnPlan job o source mesh) (options_of w)
planned job _ _ _ w = None

-- SOURCE MESH, with a partitioner's text for a set, and the number of ranks
abbrev pub taken : (file set : List ℕ) → (source mesh third : Option (List ℕ)) → OptionWords → Option Command
taken file set (Some source) (Some mesh) None w =
    where_so (has_ranks_alone w) (option_map (λ o. OnProgram (TakesOwners o.ranks file set) source mesh) (chain_options_of w))
taken file set _ _ _ w = None

-- owners: of a plan, or out of a partitioner's text, where `--metis` and `--set` stand together
abbrev pub owned : (metis set : Option (List ℕ)) → Given → Option Command
owned None None g = planned TellsOwners g.first g.second g.third g.planning
owned (Some file) (Some set) g = taken file set g.first g.second g.third g.planning
owned _ _ g = None

-- the same, with `--plain`
abbrev pub counted : Given → Option Command
counted g = planned (Counts g.own.plain) g.first g.second g.third g.planning

-- a number below 2 ^ 32 in decimal digits
abbrev pub small_number : List ℕ → Option ℕ
small_number word = option_and_then (λ n. if nat_lt n 4294967296 then Some n else None) (number_of word)

-- what is to be shown: at most one of the two words stands
abbrev pub shown_by : (halos colours : Option (List ℕ)) → Option Shown
shown_by None None = Some shown.Owners
shown_by (Some rank) None = option_map shown.Halos (small_number rank)
shown_by None (Some site) = option_map shown.Colours (small_number site)
shown_by (Some rank) (Some site) = None

-- what is shown of a mesh: the dat, the map and what is to be shown have to be told
abbrev pub picture_by : (coords cells : Option (List ℕ)) → Option Shown → Option Picture
picture_by (Some coords) (Some cells) (Some what) = Some (record { coords = coords; cells = cells; shown = what })
picture_by _ _ _ = None

-- the picture that the words of the tools' own options tell, if they tell all of one
abbrev pub picture_in : OwnWords → Option Picture
picture_in w = picture_by w.coords w.cells (shown_by w.halos w.colours)

-- SOURCE MESH, with a picture and the options of a plan
abbrev pub pictured : (Picture → PlanJob) → Given → Option Command
pictured job g = option_and_then (λ p. planned (job p) g.first g.second g.third g.planning) (picture_in g.own)

-- the dimension that a word says, 2 or 3, or none where no word stands
abbrev pub dimension_by : Option (List ℕ) → Option (Option Dimension)
dimension_by None = Some None
dimension_by (Some word) =
    if bytes_eq word (codes "2") then Some (Some dimension.Two)
    else if bytes_eq word (codes "3") then Some (Some dimension.Three)
    else None

-- the scale that a word says, from 1 on, below 2 ^ 32, in decimal digits
abbrev pub scale_by : Option (List ℕ) → Option ℕ
scale_by None = None
scale_by (Some word) = option_and_then (λ n. if nat_lt 0 n then Some n else None) (small_number word)

-- FILE, with `--scale`, `--dim` and `--source`
abbrev pub converted : (file second : Option (List ℕ)) → OwnWords → Option Command
converted (Some file) None w =
    option_and_then (λ scale. option_map (λ dim. Converts file dim scale w.source) (dimension_by w.dim)) (scale_by w.scale)
converted _ _ w = None

-- by the job's name
abbrev pub by_name : (job : List ℕ) → Given → Option Command
by_name job g =
    if bytes_eq job (codes "pick") then where_so (has_no_option g) (picked g.first g.second g.third g.fourth g.fifth)
    else if bytes_eq job (codes "graph") then where_so (has_no_option g) (graphed g.first g.second g.third g.fourth)
    else if bytes_eq job (codes "owners") then where_so (has_metis_alone g.own) (owned g.own.metis g.own.set g)
    else if bytes_eq job (codes "stat") then where_so (has_plain_alone g.own) (counted g)
    else if bytes_eq job (codes "draw") then where_so (has_picture_alone g.own) (pictured Draws g)
    else if bytes_eq job (codes "vtk") then where_so (has_grid_alone g.own) (pictured (λ p. Grids p g.own.output) g)
    else if bytes_eq job (codes "from-gmsh") then
    where_so (runs_nothing g.planning && has_mesh_alone g.own) (converted g.first g.second g.own)
    else None

-- the word JOB stands
abbrev pub asked : (job : Option (List ℕ)) → Given → Option Command
asked None g = None
asked (Some job) g = by_name job g

-- what the matches ask for, if they do
abbrev pub judged : List Row → Option Command
judged rows = asked (first_of (codes "JOB") rows) (given_in rows)

-- `clap` answers those that ask for help or the version by kinds of their own
abbrev pub by_kind : ErrorKind → Option Command
by_kind kind.DisplayHelp = Some ShowsUsage
by_kind kind.DisplayVersion = Some ShowsVersion
by_kind k = None

-- What words other than those of a call to explain ask for, or none where they are refused: by their matches where `clap` has nothing
-- against them, and else by what it has against them.
abbrev pub MatchesAre : List (List ℕ) → Option Command → Type 0
MatchesAre words r =
    ((fault_of command words ≡ []) × (judged (matches_of command words) ≡ r))
    ⊎ ((k : ErrorKind) × IsAmong k (fault_of command words) × (by_kind k ≡ r))

-- the words of a call of `op2` that is to be explained, its name first: those behind `explain`, whatever they are
abbrev pub call_in : List (List ℕ) → Option (List (List ℕ))
call_in (name ∷ job ∷ words) = if bytes_eq job (codes "explain") then Some (codes "op2" ∷ words) else None
call_in _ = None

-- What words ask for with such a call, or without one.
abbrev pub WordsAreWith : (call : Option (List (List ℕ))) → List (List ℕ) → Option Command → Type 0
WordsAreWith (Some call) words r = Some (Explains call) ≡ r
WordsAreWith None words r = MatchesAre words r

-- What the words, the program's name first, ask for, or none where they are refused.
abbrev pub WordsAre : List (List ℕ) → Option Command → Type 0
WordsAre words r = WordsAreWith (call_in words) words r
