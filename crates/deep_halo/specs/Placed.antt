-- The run of a loop's element on one memory, in which the cells of its windows have places.
use Rattle.std.specs.Prelude.{◌≡◌, ◌≢◌, ◌<◌, ◌≤◌, ◌+◌, ℕ, ℤ, pos, Bool, true, false, All, List, length, map, get_or, Option, Some, None}
use Rattle.kernel_model.specs.declared.types.faults.KernelFault.{KernelFault}
use Rattle.kernel_model.specs.declared.types.kernels.RKernel.{RKernel}
use Rattle.kernel_model.specs.declared.types.views.frame.Place.{Place}
use Rattle.kernel_model.specs.Framed.{PlacesIn}
use Rattle.schedule_model.specs.Cells.{Cell, Store}
use Rattle.schedule_model.specs.Effects.{Ran, Faulted, Finished}
use Rattle.schedule_model.specs.Layout.{among}
use Rattle.rank_state.specs.declared.spans.Span.{Span}
use Rattle.rank_state.specs.Core.{fault_of}
use Rattle.rank_state.specs.Frames.{pane_after, closed}
use Rattle.kernel_runs.specs.Here.{IsHere, core_on_gathered}
use Rattle.bound_program.specs.declared.sites.Arg.{Arg}
use Rattle.bound_program.specs.Values.{BoundValue, SiteValue}
use Rattle.run_model.specs.Windows.{Reached, reached, width, cell_in, targets, windows, window_cells}
use Rattle.run_model.specs.Kernels.{kernel_at, constant_values, element_run}

-- a loop's arguments, an element of its set, and where each cell stands
module _ (b : BoundValue) (args : List Arg) (e : ℕ) (place : Cell → ℕ) where
  -- where the window of a target stands, all of whose cells are taken over from the run
  abbrev pub place_span : Reached → Span
  place_span t = record { at = place (cell_in t 0); dim = width b t; writes = true }

  -- where the windows of all targets stand
  abbrev pub place_spans : List Span
  place_spans = map place_span (targets b args e)

  -- where the cells of an argument stand
  abbrev pub arg_place : Arg → Place
  arg_place a = record { from = place (cell_in (reached b e a) 0); count = width b (reached b e a) }

  -- where the cells of all arguments stand
  abbrev pub arg_places : List Place
  arg_places = map arg_place args

  -- the cell is one of the element's windows
  abbrev pub is_reached : Cell → Bool
  is_reached c = among (window_cells b args e) c

  -- in a memory of n cells the cells of the windows have places of their own, those of a target one after another
  pub record ArePlaced (n : ℕ) : Type 0 where
    pub follow : (t : Reached) (i : ℕ) → place (cell_in t i) ≡ place (cell_in t 0) + i
    pub within : All (λ a. place (cell_in (reached b e a) 0) + width b (reached b e a) ≤ n) args
    pub apart : (c d : Cell) → is_reached c ≡ true → is_reached d ≡ true → place c ≡ place d → c ≡ d

  -- the memory has the store's values there
  abbrev pub HoldsWindows : List ℤ → Store → Type 0
  HoldsWindows m s = (c : Cell) → is_reached c ≡ true → get_or m (place c) (pos 0) ≡ s c

  -- no cell of the windows stands there
  abbrev pub IsElsewhere : ℕ → Type 0
  IsElsewhere i = (c : Cell) → is_reached c ≡ true → place c ≢ i

  -- the memory has the values of t where the windows' cells stand, and its own elsewhere; other cells of t are those of s
  pub record LeavesPlaced (old new : List ℤ) (s t : Store) : Type 0 where
    pub count : length new ≡ length old
    pub cells : HoldsWindows new t
    pub others : (i : ℕ) → IsElsewhere i → get_or new i (pos 0) ≡ get_or old i (pos 0)
    pub stay : (c : Cell) → is_reached c ≡ false → t c ≡ s c

  -- the run ends so
  abbrev pub EndsPlaced : (old new : List ℤ) → Store → Option KernelFault → Ran KernelFault → Type 0
  EndsPlaced old new s fault (Faulted f) = (fault ≡ Some f) × (new ≡ old)
  EndsPlaced old new s fault (Finished t) = (fault ≡ None) × LeavesPlaced old new s t

-- what a run in place gives at such places, where the loop has this kernel
pub record RunsPlaced (b : BoundValue) (site : SiteValue) (e : ℕ) (k : RKernel) (consts : List ℤ) (place : Cell → ℕ) (n : ℕ)
    (marks : List Bool) : Type 0 where
  pub fits : PlacesIn n (arg_places b site.args e place)
  pub here : IsHere k consts n (arg_places b site.args e place) marks (place_spans b site.args e place) (windows b site.args e)
  pub ends : (old new : List ℤ) (s : Store) (fault : Option KernelFault) (item : ℕ)
      → length old ≡ n
      → HoldsWindows b site.args e place old s
      → consts ≡ constant_values b s
      → fault ≡ fault_of (core_on_gathered k consts old (place_spans b site.args e place) (windows b site.args e))
      → new ≡ closed (place_spans b site.args e place)
      (pane_after item (core_on_gathered k consts old (place_spans b site.args e place) (windows b site.args e))) old
      → EndsPlaced b site.args e place old new s fault (element_run b site e s)

-- where all arguments are marked, the run of an element in place ends as the program's run of it does
abbrev pub PlacedElementsRun : Type 0
PlacedElementsRun =
    (b : BoundValue) (site : SiteValue) (e : ℕ) (k : RKernel) (consts : List ℤ) (place : Cell → ℕ) (n : ℕ) (marks : List Bool)
    → kernel_at b.kernels site.kernel ≡ Some k
    → ArePlaced b site.args e place n
    → ((a : ℕ) → a < length site.args → get_or marks a false ≡ true)
    → RunsPlaced b site e k consts place n marks
