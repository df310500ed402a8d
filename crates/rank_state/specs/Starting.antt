-- The machine's lists at the start.
use Rattle.std.specs.Prelude.{◌≡◌, ◌<◌, ℕ, ℤ, pos, List, [], get_or, map, length, Some, None}
use Rattle.schedule_model.specs.Cells.{Data, Variable}
use Rattle.schedule_model.specs.Setup.{Setup}
use Rattle.schedule_model.specs.Machine.{unit_at}
use Rattle.schedule_model.specs.Layout.{Layout}
use Rattle.op_num.specs.Reduction.{unit_of}
use Rattle.rank_state.specs.declared.scalars.Operation.{Operation}
use Rattle.rank_state.specs.declared.scalars.Operation.TheVariants.{Sum}
use Rattle.rank_state.specs.Windows.{operation}
use Rattle.rank_state.specs.Frames.{Shut, pane_at, fresh}
use Rattle.rank_state.specs.Machine.{State}
use Rattle.rank_state.specs.Shows.{Tables, Sized}

-- the mesh's values in every copy, the variables' first values, units in the partials, and all else empty
pub record Starts {F : Type 0} (p : Setup F) (l : Layout F) (t : Tables) (st : State F) : Type 0 where
  pub sized : Sized p l t st
  pub values : (r i : ℕ) → r < p.ranks → i < l.width r → get_or (get_or st.memories r []) i (pos 0) ≡ p.program.start (Data (l.cell_at r i))
  pub variables : (i : ℕ) → i < l.variables → get_or st.variables i (pos 0) ≡ p.program.start (Variable (l.variable_at i))
  pub partials : (r i : ℕ) → r < p.ranks → i < t.slots
      → get_or (get_or st.partials r []) i (pos 0) ≡ unit_at (p.reduces (t.site_at i) (t.reduced_at i))
  pub mail : st.mail.posts ≡ []
  pub panes : (r x : ℕ) → pane_at st.frames.panes r x ≡ Shut
  pub fault : st.fault ≡ None
  pub output : st.output ≡ []

-- a rank's partials, by slot
abbrev pub units : List Operation → List ℤ
units slots = map (λ how. unit_of (operation how)) slots

-- the state before the first step; there is a slot for each cell that a loop reduces into
abbrev pub started : {F : Type 0} → List (List ℤ) → List ℤ → List Operation → List ℕ → ℕ → ℕ → ℕ → State F
started memories variables slots places frames mail stride = record {
  memories = memories;
  variables = variables;
  partials = map (λ m. units slots) memories;
  frames = fresh places frames stride;
  mail = record { posts = []; left = mail };
  fault = None;
  output = [];
}

module _ {F : Type 0} (p : Setup F) (l : Layout F) (t : Tables) where
  -- the cells' first values
  pub record AreFirst (memories : List (List ℤ)) (variables : List ℤ) : Type 0 where
    pub ranks : length memories ≡ p.ranks
    pub widths : (r : ℕ) → r < p.ranks → length (get_or memories r []) ≡ l.width r
    pub values : (r i : ℕ) → r < p.ranks → i < l.width r → get_or (get_or memories r []) i (pos 0) ≡ p.program.start (Data (l.cell_at r i))
    pub count : length variables ≡ l.variables
    pub variables_are : (i : ℕ) → i < l.variables → get_or variables i (pos 0) ≡ p.program.start (Variable (l.variable_at i))

  -- how the loops reduce into the partials
  pub record AreSlots (slots : List Operation) : Type 0 where
    pub count : length slots ≡ t.slots
    pub operations : (i : ℕ) → i < t.slots → p.reduces (t.site_at i) (t.reduced_at i) ≡ Some (operation (get_or slots i Sum))

  -- how many places there may be on each rank
  pub record ArePlaces (places : List ℕ) : Type 0 where
    pub ranks : length places ≡ p.ranks
    pub each : (r : ℕ) → r < p.ranks → get_or places r 0 ≡ t.places r
