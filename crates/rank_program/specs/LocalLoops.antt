-- What the elements of a loop that run on a rank's own cells have in common.
use Rattle.std.specs.Prelude.{◌≡◌, ◌<◌, ◌≤◌, ◌+◌, ℕ, ℤ, true, All, List, length, map, get_or, Some, slice_index_or}
use Rattle.kernel_model.specs.declared.types.views.frame.Place.{Place}
use Rattle.kernel_model.specs.Resolved.{IsResolved}
use Rattle.kernel_code.specs.Coded.{IsCode}
use Rattle.kernel_model.specs.Effects.{faults_first}
use Rattle.schedule_model.specs.Cells.{Cell, Variable}
use Rattle.run_model.specs.OnWindows.{no_cell}
use Rattle.bound_program.specs.declared.sites.Arg.{Arg}
use Rattle.bound_program.specs.declared.sites.Arg.TheVariants.{Dat, Global}
use Rattle.bound_program.specs.Values.{BoundValue}
use Rattle.run_model.specs.Arguments.{arg_width}
use Rattle.run_model.specs.Kernels.{kernel_at}
use Rattle.run_model.specs.Laws.{site_of}
use Rattle.bound_plan.specs.Variables.{variable_at}
use Rattle.rank_state.specs.Windows.{scalar_cells, Reads, Merges}
use Rattle.rank_layout.specs.Made.{writes_by}
use Rattle.rank_program.specs.declared.local_loops.LocalLoop.{LocalLoop}
use Rattle.rank_program.specs.declared.rank_elements.RankElements.{RankElements}
use Rattle.rank_program.specs.Here.{scalars_in}
use Rattle.rank_program.specs.LocalArgs.{AreArgs, places_in}
use Rattle.rank_program.specs.Sound.{Sound, program_in, layout_in, tables_in}

-- the cells of an argument on a variable stand at the place, among these behind so many
abbrev pub StandsBehind : BoundValue → (width : ℕ) → List Cell → Place → Arg → Type 0
StandsBehind b width vs p (Dat d v a) = Unit {0}
StandsBehind b width vs p (Global v a) =
    (k : ℕ)
    × (p.from ≡ width + k)
    × (p.count ≡ arg_width b (Global v a))
    × (k + p.count ≤ length vs)
    × ((j : ℕ) → j < p.count → get_or vs (k + j) no_cell ≡ Variable (record { variable = v; component = j }))

-- it is that of these elements, with these values of the constants
pub record IsLoopOf (e : RankElements) (cs : List ℤ) (l : LocalLoop) : Type 0 where
  pub program : l.program.now ≡ e.program.now
  pub item : l.item ≡ e.item
  pub rank : l.rank ≡ e.rank
  pub places : l.places.now ≡ e.places.now
  pub constants : l.constants.now ≡ cs
  pub variables : l.variables.now ≡ e.variables.now

module _ (l : LocalLoop) where
  abbrev pub program_of : BoundValue
  program_of = program_in l.program.now

  abbrev pub args_of : List Arg
  args_of = (site_of program_of l.item).args

  -- what was looked up is what the run of an element takes
  pub record IsLocalLoop : Type 0 where
    pub sound : Sound l.program.now
    pub part : l.part.now ≡ slice_index_or l.program.now.meshes.now l.rank l.part.now
    pub width : l.part.now.cells ≡ (layout_in l.program.now).width l.rank
    pub code : IsCode l.code.now
    pub slots : l.code.now.slots ≤ l.program.now.locals
    pub kernel : kernel_at program_of.kernels (site_of program_of l.item).kernel ≡ Some l.code.now.kernel.now
    pub params : length args_of ≡ l.code.now.kernel.now.params
    pub clean : l.clean ≡ true → faults_first (map (arg_width program_of) args_of) l.code.now.kernel.now ≡ true
    pub marks : l.marks.now ≡ map (writes_by args_of) args_of
    pub scalars : l.scalars.now ≡ scalars_in l.program.now l.item
    pub constants : length l.constants.now ≡ length (tables_in l.program.now).constants
    pub resolved : IsResolved (length l.constants.now) l.code.now.kernel.now
    pub variables : Reads (length l.variables.now) l.scalars.now
    pub partials : Merges (tables_in l.program.now).slots l.scalars.now
    pub stride : length l.scalars.now ≤ (tables_in l.program.now).stride
    pub few : length l.args.now ≤ 16
    pub args : AreArgs program_of.mesh l.part.now args_of l.args.now

  -- places of the arguments, of which those of arguments on variables are behind the rank's cells
  pub record VariablesStand (places : List Place) : Type 0 where
    pub at : Arg → Place
    pub behind : All (λ y. StandsBehind program_of ((layout_in l.program.now).width l.rank)
        (scalar_cells (variable_at program_of) (scalars_in l.program.now l.item)) (at y) y) args_of
    pub are : (x : ℕ) → places_in x l.args.now places ≡ places_in x l.args.now (map at args_of)
    pub count : length places ≡ length l.args.now
