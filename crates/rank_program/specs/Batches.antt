-- Batches of a loop's elements on a rank: those that run in rows.
use Rattle.std.specs.Prelude.{◌≡◌, ◌<◌, ◌≤◌, ◌+◌, ◌⊎◌, ◌||◌, ℕ, Bool, true, false, List, [], ◌∷◌, length, slice_index}
use Rattle.kernel_model.specs.declared.types.faults.KernelFault.{KernelFault}
use Rattle.kernel_model.specs.declared.types.views.frame.Place.{Place}
use Rattle.kernel_model.specs.Framed.{PlacesIn}
use Rattle.schedule_steps.specs.declared.step.Step.TheVariants.{Begin}
use Rattle.schedule_steps.specs.Steps.{IsStep}
use Rattle.schedule_model.specs.Layout.{by_place}
use Rattle.run_model.specs.Arguments.{modes_of}
use Rattle.run_model.specs.Laws.{site_of}
use Rattle.rank_state.specs.declared.scalars.Scalar.{Scalar}
use Rattle.rank_state.specs.declared.scalars.Scalar.TheVariants.{Value, Amount}
use Rattle.kernel_runs.specs.declared.row_batches.rows.RowLoop.{RowLoop}
use Rattle.kernel_runs.specs.RowLoops.{width, IsWhole, LeadsFrom, RunsInRows}
use Rattle.rank_program.specs.AloneRuns.{Share, Reaches}
use Rattle.rank_program.specs.Rooms.{most_ways, most_columns}
use Rattle.rank_program.specs.declared.local_loops.LocalLoop.{LocalLoop}
use Rattle.rank_program.specs.declared.row_loops.LoopInRows.{LoopInRows}
use Rattle.rank_program.specs.LocalArgs.{places_in}
use Rattle.rank_program.specs.LocalLoops.{IsLocalLoop, VariablesStand}
use Rattle.rank_program.specs.LocalRuns.{AllBeginHere}
use Rattle.rank_program.specs.Sound.{program_in, setup_in, layout_in, tables_in}

-- the loop reduces into the scalar
abbrev pub is_amount : Scalar → Bool
is_amount (Value at) = false
is_amount (Amount at slot how) = true

-- the loop reduces into one of them
abbrev pub reduces : List Scalar → Bool
reduces [] = false
reduces (x ∷ xs) = is_amount x || reduces xs

-- what an element leaves of the scalars counts: its rank owns it, or the loop reduces into none of them
abbrev pub Counts : Bool → List Scalar → Type 0
Counts own scalars = (own ≡ true) ⊎ (reduces scalars ≡ false)

module _ (l : LocalLoop) where
  -- the element at the place begins on the rank
  abbrev pub BeginsAt : ℕ → Type 0
  BeginsAt x = IsStep (by_place (setup_in l.program.now) (layout_in l.program.now)) (Begin l.item l.rank x)

  -- its elements at the places from one on and before another run one after another
  abbrev pub GoesOn : (from to : ℕ) → (old new : Share KernelFault) → Type 0
  GoesOn from to old new =
      (start : Share KernelFault)
      → Reaches (setup_in l.program.now) (layout_in l.program.now) (tables_in l.program.now) l.item l.rank
      l.constants.now l.variables.now l.places.now start from old
      → Reaches (setup_in l.program.now) (layout_in l.program.now) (tables_in l.program.now) l.item l.rank
      l.constants.now l.variables.now l.places.now start to new

  -- it is this loop, whose elements run in rows where they begin
  pub record IsRowLoop (y : RowLoop) : Type 0 where
    pub code : y.code.now ≡ l.code.now
    pub constants : y.constants.now ≡ l.constants.now
    pub variables : y.variables.now ≡ l.variables.now
    pub scalars : y.scalars.now ≡ l.scalars.now
    pub params : length y.places.now ≡ l.code.now.kernel.now.params
    pub fits : PlacesIn (width y) y.places.now
    pub whole : IsWhole y
    pub few_ways : length y.ways.now ≤ most_ways
    pub few_columns : width y + l.code.now.slots ≤ most_columns
    pub leads : (x : ℕ) → BeginsAt x → LeadsFrom y l.part.now.cells x
    pub stand : List Place
    pub are : VariablesStand l stand
    pub in_rows : (batch : List ℕ) (rows : ℕ)
        → ((r : ℕ) → r < rows → BeginsAt (slice_index batch r))
        → RunsInRows y l.part.now.cells (modes_of (program_in l.program.now) (site_of (program_in l.program.now) l.item))
        (λ x. places_in x l.args.now stand) batch rows

-- its elements can run on the rank's own cells, and in rows
pub record CanRunInRows (y : LoopInRows) : Type 0 where
  pub is : IsLocalLoop y.local.now
  pub rows : IsRowLoop y.local.now y.rows
  pub steps : AllBeginHere y.local.now
