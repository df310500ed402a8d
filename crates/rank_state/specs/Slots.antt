-- How the program keeps the open frames: slots of one staging buffer.
use Rattle.std.specs.Prelude.{◌≡◌, ◌≢◌, ◌<◌, ◌≤◌, ◌+◌, ◌*◌, ℕ, zero, suc, ℤ, List, [], take, length, get_or, set, map, sum_by, Option, Some, None}
use Rattle.rank_state.specs.Spans.{cells_at}
use Rattle.rank_state.specs.Frames.{Pane, Shut, Broken, Holds}
use Rattle.rank_state.specs.declared.rank_memory.slot.Held.{Held}
use Rattle.rank_state.specs.declared.rank_memory.slot.Held.TheVariants.{Nothing, Fault, Cells}
use Rattle.rank_state.specs.declared.rank_memory.slot.Slot.{Slot}

-- a slot that no element has
abbrev pub no_slot : Slot
no_slot = record { item = 0; rank = 0; element = 0; held = Nothing }

-- what stands open of an element, by what its slot holds and the cells there
abbrev pub held_pane : Held → ℕ → List ℤ → Pane
held_pane Nothing k row = Shut
held_pane (Fault f) k row = Broken k
held_pane (Cells n) k row = Holds k (take n row)

-- the frame in a slot of the staging buffer
abbrev pub pane_of : ℕ → List Slot → List ℤ → ℕ → Pane
pane_of stride slots staging s =
    held_pane (get_or slots s no_slot).held (get_or slots s no_slot).item (cells_at (s * stride) stride staging)

-- what stands open by what the table says, f being the panes of slots
abbrev pub of_entry : (ℕ → Pane) → Option ℕ → Pane
of_entry f None = Shut
of_entry f (Some s) = f s

-- which slot a number in the table says, one below it; 0 says none
abbrev pub slot_of : ℕ → Option ℕ
slot_of zero = None
slot_of (suc s) = Some s

-- which slots the numbers of a table say
abbrev pub entries : List (List ℕ) → List (List (Option ℕ))
entries table = map (map slot_of) table

-- which slot a rank's place has
abbrev pub entry : List (List (Option ℕ)) → ℕ → ℕ → Option ℕ
entry table r x = get_or (get_or table r []) x None

-- the table with what it says of one rank's place replaced
abbrev pub with_entry : ℕ → ℕ → Option ℕ → List (List (Option ℕ)) → List (List (Option ℕ))
with_entry r x e table = set table r (set (get_or table r []) x e)

-- what stands open at each rank and place
abbrev pub panes_in : ℕ → List (List (Option ℕ)) → List Slot → List ℤ → List (List Pane)
panes_in stride table slots staging = map (map (of_entry (pane_of stride slots staging))) table

-- the cells that a slot holds fit into the stride
abbrev pub fits_held : ℕ → Held → Type 0
fits_held stride Nothing = Unit {0}
fits_held stride (Fault f) = Unit {0}
fits_held stride (Cells n) = n ≤ stride

-- 1 where a slot holds something
abbrev pub used_held : Held → ℕ
used_held Nothing = 0
used_held (Fault f) = 1
used_held (Cells n) = 1

-- 1 for a slot that is in use, so that those in use are counted
abbrev pub used : Slot → ℕ
used s = used_held s.held

-- the table and the slots name one another, and the free slots are free
pub record Tied (stride : ℕ) (table : List (List (Option ℕ))) (slots : List Slot) (staging : List ℤ) (free : List ℕ) : Type 0 where
  pub size : length staging ≡ length slots * stride
  pub owned : (r x s : ℕ) → entry table r x ≡ Some s
      → (s < length slots) × ((get_or slots s no_slot).rank ≡ r) × ((get_or slots s no_slot).element ≡ x)
      × ((get_or slots s no_slot).held ≢ Nothing)
  pub unused : (i : ℕ) → i < length free → (get_or free i 0 < length slots) × ((get_or slots (get_or free i 0) no_slot).held ≡ Nothing)
  pub distinct : (i j : ℕ) → i < j → j < length free → get_or free i 0 ≢ get_or free j 0
  pub counted : length free + sum_by used slots ≡ length slots
  pub fits : (s : ℕ) → fits_held stride (get_or slots s no_slot).held
