-- One element of an Ordered loop, on the buffers of all ranks.
use Rattle.std.specs.Prelude.{◌≡◌, ◌<◌, ◌≤◌, ◌+◌, ℕ, ℤ, List, [], ◌∷◌, ◌++◌, length, get_or, set, drop}
use Rattle.schedule_model.specs.Cells.{Cell, Variable, DatCell, VarCell}
use Rattle.schedule_model.specs.Setup.{Setup, owner_of}
use Rattle.schedule_model.specs.Layout.{Layout, Core, Faults, Leaves}
use Rattle.schedule_model.specs.Scatter.{Once}
use Rattle.rank_state.specs.declared.owned.Owned.{Owned}
use Rattle.rank_state.specs.Spans.{with_window, cells_at}
use Rattle.rank_state.specs.Windows.{cells_from}
use Rattle.rank_state.specs.Indices.{values_at}
use Rattle.rank_state.specs.Machine.{State}
use Rattle.rank_state.specs.Shows.{Tables}

-- each span lies within its rank's buffer
abbrev pub Within_all : List (List ℤ) → List Owned → Type 0
Within_all ms [] = Unit {0}
Within_all ms (s ∷ ss) = (s.rank < length ms) × (s.at + s.dim ≤ length (get_or ms s.rank [])) × Within_all ms ss

-- how many cells the spans have
abbrev pub total_all : List Owned → ℕ
total_all [] = 0
total_all (s ∷ ss) = s.dim + total_all ss

-- the spans' cells, one span after another
abbrev pub gathered_all : List (List ℤ) → List Owned → List ℤ
gathered_all ms [] = []
gathered_all ms (s ∷ ss) = cells_at s.at s.dim (get_or ms s.rank []) ++ gathered_all ms ss

-- a frame's cells, which stand there from a place on, in their spans
abbrev pub scattered_all : ℕ → List ℤ → List Owned → List (List ℤ) → List (List ℤ)
scattered_all from f [] ms = ms
scattered_all from f (s ∷ ss) ms =
    scattered_all (from + s.dim) f ss (set ms s.rank (with_window s.at (cells_at from s.dim f) (get_or ms s.rank [])))

-- the cells of variables at the indices
abbrev pub index_cells : (ℕ → VarCell) → List ℕ → List Cell
index_cells variable_at [] = []
index_cells variable_at (i ∷ is) = Variable (variable_at i) ∷ index_cells variable_at is

-- a frame's values at their indices
abbrev pub put_values : List ℕ → List ℤ → List ℤ → List ℤ
put_values [] ws variables = variables
put_values (i ∷ is) [] variables = variables
put_values (i ∷ is) (w ∷ ws) variables = put_values is ws (set variables i w)

-- the cells of the program that the spans have
abbrev pub owned_cells : (ℕ → ℕ → DatCell) → List Owned → List Cell
owned_cells cell_at [] = []
owned_cells cell_at (s ∷ ss) = cells_from (cell_at s.rank) s.at s.dim ++ owned_cells cell_at ss

module _ {F : Type 0} (p : Setup F) (l : Layout F) (t : Tables) where
  -- each span lies in the buffer of a rank that owns its cells
  abbrev pub OwnedBy : List Owned → Type 0
  OwnedBy [] = Unit {0}
  OwnedBy (s ∷ ss) = (s.rank < p.ranks) × (s.at + s.dim ≤ l.width s.rank)
      × ((j : ℕ) → j < s.dim → owner_of p (l.cell_at s.rank (s.at + j)) ≡ s.rank) × OwnedBy ss

  -- the indices are those of variables' cells
  abbrev pub InVariables : List ℕ → Type 0
  InVariables [] = Unit {0}
  InVariables (i ∷ is) = (i < l.variables) × InVariables is

  -- the spans, and the variables behind them, are the windows of the element
  pub record AreOwned (k e : ℕ) (spans : List Owned) (indices : List ℕ) : Type 0 where
    pub cells : l.cells k e ≡ owned_cells l.cell_at spans ++ index_cells l.variable_at indices
    pub once : Once (l.cells k e)
    pub owned : OwnedBy spans
    pub variables : InVariables indices
    pub fits : total_all spans + length indices ≤ t.stride

-- what a finished run leaves
abbrev pub put_back : {F : Type 0} → List Owned → List ℕ → List ℤ → State F → State F
put_back spans indices ws st =
    record st { memories = scattered_all 0 ws spans st.memories; variables = put_values indices (drop (total_all spans) ws) st.variables }

-- what the element's windows begin with
abbrev pub all_windows : {F : Type 0} → List Owned → List ℕ → State F → List ℤ
all_windows spans indices st = gathered_all st.memories spans ++ values_at st.variables indices

-- the buffers after an element's run
abbrev pub memories_after : {F : Type 0} → List Owned → Core F → List (List ℤ) → List (List ℤ)
memories_after spans (Faults f) ms = ms
memories_after spans (Leaves ws) ms = scattered_all 0 ws spans ms

-- the variables after an element's run, n cells of whose windows are those of spans
abbrev pub variables_after : {F : Type 0} → ℕ → List ℕ → Core F → List ℤ → List ℤ
variables_after n indices (Faults f) vs = vs
variables_after n indices (Leaves ws) vs = put_values indices (drop n ws) vs

-- the state after an element's run; a faulty one leaves it
abbrev pub left_in : {F : Type 0} → List Owned → List ℕ → Core F → State F → State F
left_in spans indices ran st =
    record st { memories = memories_after spans ran st.memories; variables = variables_after (total_all spans) indices ran st.variables }

-- what the machine runs for the element
abbrev pub run_of : {F : Type 0} → Layout F → Tables → ℕ → ℕ → List Owned → List ℕ → State F → Core F
run_of l t k e spans indices st = l.core k e (values_at st.variables t.constants) (all_windows spans indices st)
