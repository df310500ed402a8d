-- Columns that are filled for a batch, in the first rows.
use Rattle.std.specs.Prelude.{◌≡◌, ℕ, ℤ, pos, ◌<◌, List, [], length, get_or}
use Rattle.op_num.specs.Reduction.{unit_of}
use Rattle.op_num.specs.Access.{Access, OpRead, OpWrite, OpRw, OpReduce, access_of}
use Rattle.kernel_columns.specs.Rows.{at_row}
use Rattle.kernel_columns.specs.Moving.{stands_in_row, StandWithin}
use Rattle.kernel_runs.specs.declared.row_batches.rows.RowColumn.{RowColumn}
use Rattle.kernel_runs.specs.RowLoops.{column_in}

module _ (numbers : List (List ℕ)) where
  -- the cells of a column in a memory, by row
  abbrev pub cells_of : RowColumn → ℕ → ℕ
  cells_of y = stands_in_row y.cell y.dim (get_or numbers y.way [])

module _ (numbers : List (List ℕ)) (rows : ℕ) where
  -- the cells of a column stand within a memory of so many cells, in each row
  pub record ColumnStands (cells : ℕ) (y : RowColumn) : Type 0 where
    pub way : y.way < length numbers
    pub within : StandWithin rows cells y.cell y.dim (get_or numbers y.way [])

  -- the cells of each column stand there
  abbrev pub ColumnsStand : (cells : ℕ) → List RowColumn → Type 0
  ColumnsStand cells columns = (c : ℕ) → c < length columns → ColumnStands cells (column_in columns c)

  -- what a column begins with, by what arguments do with it
  abbrev pub FilledFor : Access → (memory : List ℤ) → RowColumn → (column : List ℤ) → Type 0
  FilledFor OpRead memory y column = (l : ℕ) → l < rows → at_row l column ≡ get_or memory (cells_of numbers y l) (pos 0)
  FilledFor OpRw memory y column = (l : ℕ) → l < rows → at_row l column ≡ get_or memory (cells_of numbers y l) (pos 0)
  FilledFor OpWrite memory y column = Unit {0}
  FilledFor (OpReduce r) memory y column = (l : ℕ) → l < rows → at_row l column ≡ unit_of r

  -- the column begins as the access of its arguments asks
  abbrev pub IsFilled : (memory : List ℤ) → RowColumn → (column : List ℤ) → Type 0
  IsFilled memory y column = FilledFor (access_of y.access) memory y column
