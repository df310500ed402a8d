-- What the machine's calls need of its lists.
use Rattle.std.specs.Prelude.{◌<◌, ◌≤◌, ◌+◌, ℕ, List, [], length, get_or}
use Rattle.rank_state.specs.declared.spans.Span.{Span}
use Rattle.rank_state.specs.declared.scalars.Scalar.{Scalar}
use Rattle.rank_state.specs.Spans.{Within, total}
use Rattle.rank_state.specs.Windows.{Reads, Merges}
use Rattle.rank_state.specs.Frames.{pane_at, Enough, Exactly}
use Rattle.rank_state.specs.declared.owned.Owned.{Owned}
use Rattle.rank_state.specs.Machine.{State, row}
use Rattle.rank_state.specs.Ordered.{Within_all, total_all}
use Rattle.rank_state.specs.Indices.{InLength}

module _ {F : Type 0} (st : State F) where
  -- the spans stand in the rank's buffer
  pub record CanCopy (r : ℕ) (spans : List Span) : Type 0 where
    pub rank : r < length st.memories
    pub inside : Within (length (row st.memories r)) spans

  -- the place has a row in the table of panes
  pub record HasPlace (r x : ℕ) : Type 0 where
    pub rank : r < length st.frames.panes
    pub place : x < length (get_or st.frames.panes r [])

  -- what a begin needs: its windows, its constants, a place for its frame, and room in it
  pub record CanBegin (cs : List ℕ) (r x : ℕ) (spans : List Span) (scalars : List Scalar) : Type 0 where
    pub memory : CanCopy r spans
    pub frame : HasPlace r x
    pub reads : Reads (length st.variables) scalars
    pub constants : InLength (length st.variables) cs
    pub fits : total spans + length scalars ≤ st.frames.stride

  -- what an end needs: its windows and partials, and that its frame has as many cells as they have
  pub record CanEnd (r x : ℕ) (spans : List Span) (scalars : List Scalar) : Type 0 where
    pub memory : CanCopy r spans
    pub frame : HasPlace r x
    pub partials : r < length st.partials
    pub slots : Merges (length (row st.partials r)) scalars
    pub enough : Enough (total spans) (pane_at st.frames.panes r x)
    pub exact : Exactly (total spans + length scalars) (pane_at st.frames.panes r x)

  -- what a Reduce needs: its variables, and its partials on each rank
  pub record CanReduce (scalars : List Scalar) : Type 0 where
    pub reads : Reads (length st.variables) scalars
    pub rows : (i : ℕ) → i < length st.partials → Merges (length (row st.partials i)) scalars

  -- what an element of an Ordered loop needs: its owners' buffers, its variables and constants, and room
  pub record CanRun (cs : List ℕ) (spans : List Owned) (indices : List ℕ) : Type 0 where
    pub inside : Within_all st.memories spans
    pub reads : InLength (length st.variables) indices
    pub constants : InLength (length st.variables) cs
    pub room : total_all spans + length indices ≤ st.frames.stride
