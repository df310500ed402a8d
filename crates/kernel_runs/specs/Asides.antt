-- Batches that ran on columns of their own and are put back later, and what their places touch of a memory.
use Rattle.std.specs.Prelude.{◌≡◌, ◌≢◌, ◌<◌, ◌≤◌, ◌+◌, ◌⊎◌, ℕ, ℤ, pos, true, List, [], ◌∷◌, length, map, take, get_or, slice_index}
use Rattle.op_num.specs.Access.{OpRead, OpRw}
use Rattle.kernel_model.specs.declared.types.views.frame.Place.{Place}
use Rattle.kernel_model.specs.Framed.{target_of}
use Rattle.kernel_model.specs.Meaning.{Finished, kernel_meaning}
use Rattle.kernel_model.specs.Obeys.{Mode}
use Rattle.kernel_columns.specs.declared.columns.TheConstants.{ROWS}
use Rattle.kernel_columns.specs.Rows.{at_row, row}
use Rattle.rank_state.specs.Windows.{first}
use Rattle.kernel_runs.specs.declared.row_batches.rows.RowLoop.{RowLoop}
use Rattle.kernel_runs.specs.Ways.{AreNumbers}
use Rattle.kernel_runs.specs.Meeting.{AreDifferent, NeverInPairs}
use Rattle.kernel_runs.specs.Filled.{IsFilled}
use Rattle.kernel_runs.specs.RowLoops.{column_in, scalar_in, column_access, column_cell, width, IsWhole, RunsInRows}

module _ (y : RowLoop) where
  -- the kernel's columns for a place may be put back into the cell of the memory
  abbrev pub Modifies : (x k : ℕ) → Type 0
  Modifies x k = (c : ℕ) × (c < length y.columns.now) × (column_access y c ≢ OpRead) × (column_cell y x c ≡ k)

  -- they are filled from the cell
  abbrev pub ReadsFrom : (x k : ℕ) → Type 0
  ReadsFrom x k =
      (c : ℕ) × (c < length y.columns.now) × ((column_access y c ≡ OpRead) ⊎ (column_access y c ≡ OpRw))
      × (column_cell y x c ≡ k)

  -- what one of the first places of a list modifies, no other reads; the places must differ where the loop says so
  abbrev pub NeverReadOthers : (places : List ℕ) (n : ℕ) → Type 0
  NeverReadOthers places n =
      (i l k : ℕ)
      → i < n → l < n
      → (y.differ ≡ true → slice_index places i ≢ slice_index places l)
      → Modifies (slice_index places i) k → ReadsFrom (slice_index places l) k → ⊥

  module _ (batch : List ℕ) (rows : ℕ) where
    -- the memories have the same in all cells that the first places of the batch read
    abbrev pub ReadsAlike : (old new : List ℤ) → Type 0
    ReadsAlike old new =
        (l k : ℕ) → l < rows → ReadsFrom (slice_index batch l) k → get_or new k (pos 0) ≡ get_or old k (pos 0)

    -- the memories have the same in all cells that the first places of the batch don't modify
    abbrev pub LeavesOthers : (old new : List ℤ) → Type 0
    LeavesOthers old new =
        (k : ℕ) → ((l : ℕ) → l < rows → Modifies (slice_index batch l) k → ⊥)
        → get_or new k (pos 0) ≡ get_or old k (pos 0)

    -- in each of the first rows the frame has what the kernel leaves of columns that were filled from the memory
    pub record IsAside (numbers : List (List ℕ)) (memory : List ℤ) (frame : List (List ℤ)) : Type 0 where
      pub few : rows ≤ ROWS
      pub differ : y.differ ≡ true → AreDifferent rows batch
      pub ways : length y.ways.now ≤ length numbers
      pub looked : AreNumbers rows y.ways.now batch numbers
      pub apart : NeverInPairs rows y.pairs.now numbers
      pub begun : List (List ℤ)
      pub long : width y ≤ length begun
      pub filled : (c : ℕ)
          → c < length y.columns.now → IsFilled numbers rows memory (column_in y.columns.now c) (get_or begun c [])
      pub firsts : (j l : ℕ)
          → j < length y.scalars.now → l < rows
          → at_row l (get_or begun (length y.columns.now + j) []) ≡ first y.variables.now (scalar_in y.scalars.now j)
      pub wide : width y ≤ length frame
      pub ran : (l : ℕ)
          → l < rows
          → kernel_meaning (map target_of y.places.now) y.constants.now y.code.now.kernel.now (row l begun ∷ [])
          ≡ Finished (row l (take (width y) frame) ∷ [])

-- a batch that ran aside from one memory ran so from any other that has the same in the cells that it reads
abbrev pub AsidesStay : Type 0
AsidesStay =
    (y : RowLoop) (batch : List ℕ) (rows : ℕ) (numbers : List (List ℕ)) (old new : List ℤ) (frame : List (List ℤ))
    → IsWhole y → ReadsAlike y batch rows old new
    → IsAside y batch rows numbers old frame → IsAside y batch rows numbers new frame

-- places of a loop that runs in rows never read what others modify
abbrev pub PlacesStayApart : Type 0
PlacesStayApart =
    (y : RowLoop) (cells : ℕ) (modes : List Mode) (stand : ℕ → List Place) (places : List ℕ) (n : ℕ)
    → RunsInRows y cells modes stand places n → NeverReadOthers y places n
