-- The open frames.
use Rattle.std.specs.Prelude.{◌≡◌, ◌≤◌, ◌+◌, ℕ, ℤ, List, [], length, get_or, set, map, replicate}
use Rattle.rank_state.specs.Spans.{scattered}
use Rattle.rank_state.specs.declared.spans.Span.{Span}
use Rattle.schedule_model.specs.Layout.{Core, Faults, Leaves}

-- what stands open of an element at its rank and place: nothing, a fault, or a frame
pub data Pane : Type 0 where
  Shut : Pane
  Broken : ℕ → Pane  -- item
  Holds : ℕ → List ℤ → Pane  -- item, windows

-- the open frames, and how many more there is room for
pub record Panes : Type 0 where
  pub panes : List (List Pane)  -- by rank and element
  pub left : ℕ  -- how many more may be opened
  pub stride : ℕ  -- the most cells that one holds

-- what stands open at a rank and place
abbrev pub pane_at : List (List Pane) → ℕ → ℕ → Pane
pane_at ps r x = get_or (get_or ps r []) x Shut

-- the table of panes with one of them replaced
abbrev pub with_pane : ℕ → ℕ → Pane → List (List Pane) → List (List Pane)
with_pane r x v ps = set ps r (set (get_or ps r []) x v)

-- nothing is open
abbrev pub fresh : List ℕ → ℕ → ℕ → Panes
fresh shape peak stride = record { panes = map (λ n. replicate n Shut) shape; left = peak; stride = stride }

-- what stands open of an element of the item after its kernel's run
abbrev pub pane_after : {F : Type 0} → ℕ → Core F → Pane
pane_after k (Faults f) = Broken k
pane_after k (Leaves ws) = Holds k ws

-- the element's frame is opened with what its kernel's run left
abbrev pub opened : {F : Type 0} → ℕ → ℕ → ℕ → Core F → ℕ → Panes → Panes
opened k r x ran left p = record p { panes = with_pane r x (pane_after k ran) p.panes; left = left }

-- the element's frame is free again
abbrev pub shut : ℕ → ℕ → Panes → Panes
shut r x p = record p { panes = with_pane r x Shut p.panes; left = p.left + 1 }

-- the frame is enough for so many cells
abbrev pub Enough : ℕ → Pane → Type 0
Enough n Shut = Unit {0}
Enough n (Broken k) = Unit {0}
Enough n (Holds k ws) = n ≤ length ws

-- what an element that ends leaves in its rank's memory
abbrev pub closed : List Span → Pane → List ℤ → List ℤ
closed ss Shut m = m
closed ss (Broken k) m = m
closed ss (Holds k ws) m = scattered 0 ws ss m

-- the frame has so many cells
abbrev pub Exactly : ℕ → Pane → Type 0
Exactly n Shut = Unit {0}
Exactly n (Broken k) = Unit {0}
Exactly n (Holds k ws) = length ws ≡ n
