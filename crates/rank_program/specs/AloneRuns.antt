-- Elements of one item that begin and end one after another on a rank.
use Rattle.std.specs.Prelude.{◌≡◌, ◌<◌, ◌++◌, ◌==◌, ℕ, zero, suc, ℤ, List, length, get_or, set, Option}
use Rattle.schedule_steps.specs.declared.step.Step.TheVariants.{Begin}
use Rattle.schedule_steps.specs.Steps.{IsStep}
use Rattle.schedule_model.specs.Setup.{Setup}
use Rattle.schedule_model.specs.Sequential.{Stop}
use Rattle.schedule_model.specs.Layout.{Layout, Core, by_place}
use Rattle.rank_state.specs.declared.spans.Span.{Span}
use Rattle.rank_state.specs.declared.scalars.Scalar.{Scalar}
use Rattle.rank_state.specs.Spans.{total, gathered}
use Rattle.rank_state.specs.Core.{fault_of}
use Rattle.rank_state.specs.Windows.{firsts}
use Rattle.rank_state.specs.Frames.{pane_after, closed}
use Rattle.rank_state.specs.Machine.{State, row, noted, merged_pane}
use Rattle.rank_state.specs.Shows.{Tables, AreWindows}

-- what the elements of a rank change: its cells, its partials, and the fault that is kept
pub record Share (F : Type 0) : Type 0 where
  pub cells : List ℤ
  pub partials : List ℤ
  pub fault : Option (Stop F)

-- the share of a rank in a state, and the state with another one
abbrev pub share_of : {F : Type 0} → ℕ → State F → Share F
share_of r st = record { cells = row st.memories r; partials = row st.partials r; fault = st.fault }

-- the state with another share of the rank
abbrev pub with_share : {F : Type 0} → ℕ → Share F → State F → State F
with_share r new st =
    record st { memories = set st.memories r new.cells; partials = set st.partials r new.partials; fault = new.fault }

module _ {F : Type 0} (p : Setup F) (l : Layout F) (t : Tables) (k r : ℕ) where
  -- the elements at the places begin on the rank
  abbrev pub AllBegin : List ℕ → Type 0
  AllBegin places = (i : ℕ) → i < length places → IsStep (by_place p l) (Begin k r (get_or places i 0))

  -- with these values of the constants and of the variables, the element at a place runs and ends: its written windows go back into
  -- the rank's cells, its amounts into the rank's partials where the rank owns it, and its fault is recorded
  pub record RunsAt (cs vs : List ℤ) (x : ℕ) (old new : Share F) : Type 0 where
    pub spans : List Span
    pub scalars : List Scalar
    pub are : AreWindows p l t k r x spans scalars
    pub ran : Core F
    pub is : ran ≡ l.core k (l.original k r x) cs (gathered old.cells spans ++ firsts vs scalars)
    pub cells : new.cells ≡ closed spans (pane_after k ran) old.cells
    pub partials : new.partials
        ≡ merged_pane (p.owner (p.program.set k) (l.original k r x) == r) (total spans) scalars (pane_after k ran) old.partials
    pub fault : new.fault ≡ noted k (l.original k r x) (fault_of ran) old.fault

  -- the elements at so many places from the front ran, one after another
  abbrev pub Reaches : (cs vs : List ℤ) (places : List ℕ) → Share F → ℕ → Share F → Type 0
  Reaches cs vs places old zero new = new ≡ old
  Reaches cs vs places old (suc i) new =
      (between : Share F) × Reaches cs vs places old i between × RunsAt cs vs (get_or places i 0) between new
