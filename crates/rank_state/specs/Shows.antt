-- The machine's lists show a state of the distributed machine on flat buffers.
use Rattle.std.specs.Prelude.{◌≡◌, ◌<◌, ◌≤◌, ◌+◌, ◌==◌, cond, ℕ, suc, zero, ℤ, pos, true, List, [], ◌∷◌, ◌++◌, map, length, get_or, Some, None}
use Rattle.schedule_model.specs.Cells.{VarCell}
use Rattle.schedule_model.specs.Program.{Free}
use Rattle.schedule_model.specs.Setup.{Setup}
use Rattle.schedule_model.specs.Machine.{arrives}
use Rattle.schedule_model.specs.Kept.{kept_of, OfElements}
use Rattle.schedule_model.specs.Layout.{Layout}
use Rattle.schedule_model.specs.Flat.{Flat}
use Rattle.schedule_model.specs.Flat as flat
use Rattle.schedule_model.specs.Scatter.{Once}
use Rattle.rank_state.specs.declared.spans.Span.{Span}
use Rattle.rank_state.specs.declared.scalars.Scalar.{Scalar}
use Rattle.rank_state.specs.declared.scalars.Scalar.TheVariants.{Value, Amount}
use Rattle.rank_state.specs.Spans.{Within, total}
use Rattle.rank_state.specs.Windows.{span_cells, scalar_cells, Marked, operation, has_slot}
use Rattle.rank_state.specs.Mail.{Post, is_of}
use Rattle.rank_state.specs.Frames.{Pane, Shut, Broken, Holds, pane_at}
use Rattle.rank_state.specs.Indices.{InLength}
use Rattle.rank_state.specs.Machine.{State}

-- the item's pane, of what stands open at its rank and place
abbrev pub pane_in : ℕ → Pane → flat.Pane
pane_in k Shut = flat.Shut_pane
pane_in k (Broken j) = cond (k == j) flat.Broken_pane flat.Shut_pane
pane_in k (Holds j ws) = cond (k == j) (flat.Windows ws) flat.Shut_pane

-- a message as one of the flat machine
abbrev pub post_of : Post → flat.Post
post_of x = record { about = x.item; values = x.values }

-- the messages of one pair
abbrev pub queue : ℕ → ℕ → List Post → List flat.Post
queue s r [] = []
queue s r (x ∷ xs) = cond (is_of s r x) (post_of x ∷ queue s r xs) (queue s r xs)

-- what the machine keeps beside the layout
pub record Tables : Type 0 where
  pub constants : List ℕ  -- the indices of the variables' cells that are constants
  pub slots : ℕ  -- partials of a rank
  pub site_at : ℕ → ℕ  -- slot: the loop that reduces into it
  pub reduced_at : ℕ → VarCell  -- slot: the cell
  pub places : ℕ → ℕ  -- rank: more than any place of an item
  pub stride : ℕ  -- the most cells of an element's windows

-- the variables' cells from an index on
abbrev pub variables_from : (ℕ → VarCell) → ℕ → ℕ → List VarCell
variables_from variable_at i zero = []
variables_from variable_at i (suc n) = variable_at i ∷ variables_from variable_at (suc i) n

module _ {F : Type 0} (p : Setup F) (l : Layout F) (t : Tables) where
  -- each index of a buffer is its cell's place, each index of the variables its cell's
  pub record Indexed : Type 0 where
    pub place_at : (r i : ℕ) → r < p.ranks → i < l.width r → l.place r (l.cell_at r i) ≡ i
    pub index_at : (i : ℕ) → i < l.variables → l.index_of (l.variable_at i) ≡ i
    pub constants_are : l.constants ≡ map l.variable_at t.constants
    pub constants_fit : InLength l.variables t.constants
    pub counts_fit : (k r : ℕ) → p.program.kind k ≡ Free → r < p.ranks → l.count k r ≤ t.places r

  -- ---- what the code hands to a step

  -- the scalar is a cell that the item's loop reads, or one into which it reduces
  abbrev pub IsScalar : ℕ → Scalar → Type 0
  IsScalar k (Value at) = (at < l.variables) × (p.reduces (p.program.site k) (l.variable_at at) ≡ None)
  IsScalar k (Amount at slot how) = (at < l.variables) × (p.reduces (p.program.site k) (l.variable_at at) ≡ Some (operation how))
      × (slot < t.slots) × (t.site_at slot ≡ p.program.site k) × (t.reduced_at slot ≡ l.variable_at at)

  -- each scalar is a cell that the item's loop reads, or one into which it reduces
  abbrev pub AreScalars : ℕ → List Scalar → Type 0
  AreScalars k [] = Unit {0}
  AreScalars k (x ∷ xs) = IsScalar k x × AreScalars k xs

  -- the spans, and the scalars behind them, are the windows of the place's element
  pub record AreWindows (k r x : ℕ) (spans : List Span) (scalars : List Scalar) : Type 0 where
    pub cells : l.cells k (l.original k r x) ≡ span_cells (l.cell_at r) spans ++ scalar_cells l.variable_at scalars
    pub once : Once (l.cells k (l.original k r x))
    pub within : Within (l.width r) spans
    pub writes : Marked (λ i. p.modifies k (l.cell_at r i).dat) spans
    pub are_scalars : AreScalars k scalars
    pub covers : (i : ℕ) → i < t.slots → t.site_at i ≡ p.program.site k → has_slot i scalars ≡ true
    pub fits : total spans + length scalars ≤ t.stride

  -- the spans are the exported cells, where the rank has them
  pub record AreExports (k s r rank : ℕ) (spans : List Span) : Type 0 where
    pub cells : l.exports k s r ≡ span_cells (l.cell_at rank) spans
    pub within : Within (l.width rank) spans

  -- the spans are where the receiver has them, and all of them arrive
  pub record AreImports (k s r : ℕ) (spans : List Span) : Type 0 where
    pub cells : l.exports k s r ≡ span_cells (l.cell_at r) spans
    pub once : Once (l.exports k s r)
    pub within : Within (l.width r) spans
    pub writes : Marked (λ i. arrives p k r s (l.cell_at r i)) spans

  -- ---- the state

  -- the lengths of its lists
  pub record Sized (st : State F) : Type 0 where
    pub ranks : length st.memories ≡ p.ranks
    pub widths : (r : ℕ) → r < p.ranks → length (get_or st.memories r []) ≡ l.width r
    pub count : length st.variables ≡ l.variables
    pub partials : length st.partials ≡ p.ranks
    pub slots : (r : ℕ) → r < p.ranks → length (get_or st.partials r []) ≡ t.slots
    pub panes : length st.frames.panes ≡ p.ranks
    pub places : (r : ℕ) → r < p.ranks → length (get_or st.frames.panes r []) ≡ t.places r
    pub stride : st.frames.stride ≡ t.stride

  -- each message has a value for each exported cell
  abbrev pub AreWhole : List Post → Type 0
  AreWhole [] = Unit {0}
  AreWhole (x ∷ xs) = (length x.values ≡ length (l.exports x.item x.from x.to)) × AreWhole xs

  -- the lists show the state, which has not stopped
  pub record Shows (st : State F) (f : Flat F) : Type 0 where
    pub sized : Sized st
    pub memories : st.memories ≡ f.memories
    pub variables : st.variables ≡ f.variables
    pub partials : (r i : ℕ) → r < p.ranks → i < t.slots
        → get_or (get_or st.partials r []) i (pos 0) ≡ f.partials r (t.site_at i) (t.reduced_at i)
    pub mail : (s r : ℕ) → queue s r st.mail.posts ≡ f.mail s r
    pub whole : AreWhole st.mail.posts
    pub panes : (k r x : ℕ) → pane_in k (pane_at st.frames.panes r x) ≡ f.panes k r x
    pub held : (r x k : ℕ) (ws : List ℤ) → pane_at st.frames.panes r x ≡ Holds k ws → length ws ≡ length (l.cells k (l.original k r x))
    pub elements : OfElements f.faults
    pub fault : st.fault ≡ kept_of None f.faults
    pub output : st.output ≡ f.output
    pub stop : f.stop ≡ None
