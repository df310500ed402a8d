-- Columns that are put back, in the first rows.
use Rattle.std.specs.Prelude.{ℕ, zero, suc, ℤ, pos, ◌<◌, List, [], ◌∷◌, get_or, slice_set}
use Rattle.op_num.specs.Access.{Access, OpRead, OpWrite, OpRw, OpReduce, access_of}
use Rattle.rank_state.specs.declared.scalars.Operation.{Operation}
use Rattle.rank_state.specs.declared.scalars.Scalar.{Scalar}
use Rattle.rank_state.specs.declared.scalars.Scalar.TheVariants.{Value, Amount}
use Rattle.rank_state.specs.Windows.{operation}
use Rattle.kernel_columns.specs.Rows.{RowsFit}
use Rattle.kernel_columns.specs.Moving.{CellsFit, stored, merged_in, total}
use Rattle.kernel_runs.specs.declared.row_batches.rows.RowColumn.{RowColumn}
use Rattle.kernel_runs.specs.RowLoops.{column_in}
use Rattle.kernel_runs.specs.Filled.{cells_of}

module _ (numbers : List (List ℕ)) (rows : ℕ) where
  -- a column is put back, by what arguments of this access do with it
  abbrev pub put_back_for : Access → RowColumn → (column memory : List ℤ) → List ℤ
  put_back_for OpRead y column memory = memory
  put_back_for OpWrite y column memory = stored (cells_of numbers y) column rows memory
  put_back_for OpRw y column memory = stored (cells_of numbers y) column rows memory
  put_back_for (OpReduce r) y column memory = merged_in (cells_of numbers y) column r rows memory

  -- a column is put back
  abbrev pub column_put_back : RowColumn → (column memory : List ℤ) → List ℤ
  column_put_back y = put_back_for (access_of y.access) y

  -- the first n columns are put back
  abbrev pub put_back : List RowColumn → (frame : List (List ℤ)) → ℕ → (memory : List ℤ) → List ℤ
  put_back columns frame zero memory = memory
  put_back columns frame (suc n) memory = column_put_back (column_in columns n) (get_or frame n []) (put_back columns frame n memory)

  -- what was put back of a column are numbers of 32 bits, and so is what the cells held into which it was merged, by what arguments of
  -- this access do with it
  abbrev pub NumbersPutFor : Access → RowColumn → (column memory : List ℤ) → Type 0
  NumbersPutFor OpRead y column memory = Unit {0}
  NumbersPutFor OpWrite y column memory = RowsFit rows column
  NumbersPutFor OpRw y column memory = RowsFit rows column
  NumbersPutFor (OpReduce r) y column memory = RowsFit rows column × CellsFit (cells_of numbers y) rows memory

  -- the same by the column's own access
  abbrev pub NumbersPut : RowColumn → (column memory : List ℤ) → Type 0
  NumbersPut y = NumbersPutFor (access_of y.access) y

  -- the same of each of the first n columns, put back one after another
  abbrev pub AllNumbersPut : List RowColumn → (frame : List (List ℤ)) → ℕ → (memory : List ℤ) → Type 0
  AllNumbersPut columns frame n memory =
      (c : ℕ) → c < n → NumbersPut (column_in columns c) (get_or frame c []) (put_back columns frame c memory)

-- the amounts of the first rows, merged into a number
abbrev pub total_of : (rows : ℕ) → Operation → List ℤ → ℤ → ℤ
total_of rows how column number = total (operation how) column rows number

-- those of a scalar's column, merged into its partial
abbrev pub total_put : (rows : ℕ) → Scalar → (column partials : List ℤ) → List ℤ
total_put rows (Value at) column partials = partials
total_put rows (Amount at slot how) column partials =
    slice_set partials slot (total_of rows how column (get_or partials slot (pos 0)))

-- those of each scalar's column
abbrev pub totals : (rows : ℕ) → List Scalar → (columns : List (List ℤ)) → (partials : List ℤ) → List ℤ
totals rows [] columns partials = partials
totals rows (x ∷ xs) [] partials = partials
totals rows (x ∷ xs) (c ∷ cs) partials = totals rows xs cs (total_put rows x c partials)

-- the amounts in a scalar's column are numbers of 32 bits, in the first rows
abbrev pub AmountsFit : (rows : ℕ) → Scalar → (column : List ℤ) → Type 0
AmountsFit rows (Value at) column = Unit {0}
AmountsFit rows (Amount at slot how) column = RowsFit rows column
