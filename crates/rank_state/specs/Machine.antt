-- The machine's state as lists, and its steps.
use Rattle.std.specs.Prelude.{◌-◌, cond, ℕ, ℤ, Bool, List, [], ◌++◌, drop, get_or, set, Option, Some, None}
use Rattle.schedule_model.specs.Sequential.{Stop}
use Rattle.schedule_model.specs.Kept.{kept}
use Rattle.schedule_model.specs.Layout.{Core}
use Rattle.rank_state.specs.declared.spans.Span.{Span}
use Rattle.rank_state.specs.declared.scalars.Scalar.{Scalar}
use Rattle.rank_state.specs.Spans.{total, gathered}
use Rattle.rank_state.specs.Core.{fault_of}
use Rattle.rank_state.specs.Indices.{values_at}
use Rattle.rank_state.specs.Windows.{firsts, amounts}
use Rattle.rank_state.specs.Mail.{Box, sent, received, arrived, first_post}
use Rattle.rank_state.specs.Frames.{Pane, Shut, Broken, Holds, Panes, pane_at, pane_after, opened, shut, closed}

-- the memories of all ranks with what is open and under way; F is the type of faults
pub record State (F : Type 0) : Type 0 where
  pub memories : List (List ℤ)  -- by rank
  pub variables : List ℤ
  pub partials : List (List ℤ)  -- by rank and slot
  pub frames : Panes
  pub mail : Box
  pub fault : Option (Stop F)  -- of the recorded faults the one that a join would report
  pub output : List ℕ

-- a rank's memory, or its partials
abbrev pub row : List (List ℤ) → ℕ → List ℤ
row ms r = get_or ms r []

-- what an element's windows begin with
abbrev pub windows_of : {F : Type 0} → State F → ℕ → List Span → List Scalar → List ℤ
windows_of st r spans scalars = gathered (row st.memories r) spans ++ firsts st.variables scalars

-- the fault of a run is recorded
abbrev pub noted : {F : Type 0} → ℕ → ℕ → Option F → Option (Stop F) → Option (Stop F)
noted k e None before = before
noted k e (Some f) before = kept before (record { item = k; element = Some e; fault = f })

-- begin: the frame is opened with what the kernel's run left, or its fault is recorded
abbrev pub begun_as : {F : Type 0} → ℕ → ℕ → ℕ → ℕ → Core F → State F → State F
begun_as k r x e ran st = record st { frames = opened k r x ran (st.frames.left - 1) st.frames; fault = noted k e (fault_of ran) st.fault }

-- begin: the element's windows are copied into a frame and its kernel runs there; the constants are the variables at these indices
abbrev pub begun : {F : Type 0} → (ℕ → ℕ → List ℤ → List ℤ → Core F) → List ℕ → ℕ → ℕ → ℕ → ℕ → List Span → List Scalar → State F → State F
begun core cs k r x e spans scalars st =
    begun_as k r x e (core k e (values_at st.variables cs) (windows_of st r spans scalars)) st

-- what an element's own reductions leave in its rank's partials
abbrev pub merged_pane : Bool → ℕ → List Scalar → Pane → List ℤ → List ℤ
merged_pane own n scalars Shut partials = partials
merged_pane own n scalars (Broken k) partials = partials
merged_pane own n scalars (Holds k ws) partials = cond own (amounts scalars (drop n ws) partials) partials

-- end: the written windows are copied back, an owned element's reductions are merged, and the frame is free
abbrev pub ended : {F : Type 0} → Bool → ℕ → ℕ → List Span → List Scalar → State F → State F
ended own r x spans scalars st =
    record st {
      memories = set st.memories r (closed spans (pane_at st.frames.panes r x) (row st.memories r));
      partials = set st.partials r (merged_pane own (total spans) scalars (pane_at st.frames.panes r x) (row st.partials r));
      frames = shut r x st.frames;
    }

-- send: the sender's cells are stored as a message
abbrev pub posted : {F : Type 0} → ℕ → ℕ → ℕ → List Span → State F → State F
posted k s r spans st = record st { mail = sent k s r (gathered (row st.memories s) spans) st.mail }

-- recv: the oldest message of the pair goes into the receiver's copies
abbrev pub taken : {F : Type 0} → ℕ → ℕ → List Span → State F → State F
taken r s spans st =
    record st {
      memories = set st.memories r (arrived spans (first_post s r st.mail.posts) (row st.memories r));
      mail = received s r (total spans) st.mail;
    }

-- a begin and its own end at once: what the run leaves goes back, or its fault is recorded
abbrev pub passed : {F : Type 0} → Bool → ℕ → ℕ → ℕ → List Span → List Scalar → Core F → State F → State F
passed own k r e spans scalars ran st =
    record st {
      memories = set st.memories r (closed spans (pane_after k ran) (row st.memories r));
      partials = set st.partials r (merged_pane own (total spans) scalars (pane_after k ran) (row st.partials r));
      fault = noted k e (fault_of ran) st.fault;
    }
