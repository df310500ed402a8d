-- Batches of a list of places, one behind another, each of which runs on columns of its own.
use Rattle.std.specs.Prelude.{◌≡◌, ◌<◌, ◌≤◌, ◌+◌, ◌*◌, ℕ, ℤ, All, List, length, slice_index}
use Rattle.kernel_model.specs.Resolved.{IsResolved}
use Rattle.kernel_model.specs.Framed.{PlacesIn}
use Rattle.kernel_code.specs.Coded.{IsCode}
use Rattle.kernel_columns.specs.declared.columns.TheConstants.{ROWS}
use Rattle.rank_state.specs.Windows.{Reads}
use Rattle.kernel_runs.specs.declared.row_batches.rows.RowLoop.{RowLoop}
use Rattle.kernel_runs.specs.RowLoops.{HasRowRoom, width, IsWhole, LeadsFrom}
use Rattle.kernel_runs.specs.Asides.{IsAside}
use Rattle.kernel_runs.specs.declared.worker_batches.room.BatchPart.{BatchPart}
use Rattle.kernel_runs.specs.declared.worker_batches.room.BatchesRoom.{BatchesRoom}

-- a mark for each of so many places, and room for batches with so many ways, columns and slots, no more than these places make
pub record HasBatches (ways columns slots places : ℕ) (room : BatchesRoom) : Type 0 where
  pub parts : All (λ x. HasRowRoom ways columns slots x.room) room.parts.items
  pub few : length room.parts.items ≤ 512
  pub there : (i : ℕ) → i < length room.parts.items → i * ROWS < places
  pub marks : length room.marks.items ≡ places

-- the loop can run for the places on a memory of so many cells
pub record CanRun (y : RowLoop) (cells : ℕ) (places : List ℕ) : Type 0 where
  pub code : IsCode y.code.now
  pub resolved : IsResolved (length y.constants.now) y.code.now.kernel.now
  pub params : length y.places.now ≡ y.code.now.kernel.now.params
  pub fits : PlacesIn (width y) y.places.now
  pub whole : IsWhole y
  pub variables : Reads (length y.variables.now) y.scalars.now
  pub leads : (l : ℕ) → l < length places → LeadsFrom y cells (slice_index places l)

module _ (y : RowLoop) (memory : List ℤ) (places : List ℕ) (i : ℕ) where
  -- there is a batch with this number among the places
  pub record CanRunBatch : Type 0 where
    pub can : CanRun y (length memory) places
    pub there : i * ROWS < length places

  -- the batch ran aside from the memory, for some of its places
  pub record RanBatch (x : BatchPart) : Type 0 where
    pub within : i * ROWS + x.ran ≤ length places
    pub few : x.ran ≤ ROWS
    pub are : (j : ℕ) → j < x.ran → slice_index x.batch j ≡ slice_index places (i * ROWS + j)
    pub aside : 0 < x.ran → IsAside y x.batch x.ran x.room.numbers.items memory x.room.frame.items
