-- Cells of the memory into which no column is put back.
use Rattle.std.proofs.Common.{◌≡◌, ◌≢◌, ℕ, zero, suc, ℤ, pos, ◌<◌, List, [], get_or, refl, ◌∙◌, get_or-set_other, sym, arith}
use Rattle.op_num.specs.Reduction.{Reduction, merged}
use Rattle.op_num.specs.Access.{Access, OpRead, OpWrite, OpRw, OpReduce, access_of}
use Rattle.kernel_columns.specs.Rows.{at_row}
use Rattle.kernel_columns.specs.Moving.{stored, merged_in}
use Rattle.kernel_runs.specs.declared.row_batches.rows.RowColumn.{RowColumn}
use Rattle.kernel_runs.specs.Filled.{cells_of}
use Rattle.kernel_runs.specs.Put.{put_back_for, put_back}
use Rattle.kernel_runs.specs.RowLoops.{column_in}

pub stored_stays : (stands : ℕ → ℕ) (column : List ℤ) (n : ℕ) (m : List ℤ) (k : ℕ) → ((l : ℕ) → l < n → stands l ≢ k) → get_or (stored stands column n m) k (pos 0) ≡ get_or m k (pos 0)
unfolding stored
stored_stays stands column zero m k off = refl
stored_stays stands column (suc n) m k off =
    get_or-set_other (stored stands column n m) (stands n) k (at_row n column) (pos 0) (λ e. off n (omega arith) (sym e))
    ∙ stored_stays stands column n m k (λ l lt. off l (omega (arith, lt)))

pub merged_stays : (stands : ℕ → ℕ) (column : List ℤ) (r : Reduction) (n : ℕ) (m : List ℤ) (k : ℕ) → ((l : ℕ) → l < n → stands l ≢ k)
    → get_or (merged_in stands column r n m) k (pos 0) ≡ get_or m k (pos 0)
unfolding merged_in
merged_stays stands column r zero m k off = refl
merged_stays stands column r (suc n) m k off =
    let before = merged_in stands column r n m in
    get_or-set_other before (stands n) k (merged r (get_or before (stands n) (pos 0)) (at_row n column)) (pos 0) (λ e. off n (omega arith) (sym e))
    ∙ merged_stays stands column r n m k (λ l lt. off l (omega (arith, lt)))

column_stays : (numbers : List (List ℕ)) (rows : ℕ) (a : Access) (y : RowColumn) (column m : List ℤ) (k : ℕ)
    → (a ≢ OpRead → (l : ℕ) → l < rows → cells_of numbers y l ≢ k)
    → get_or (put_back_for numbers rows a y column m) k (pos 0) ≡ get_or m k (pos 0)
column_stays numbers rows OpRead y column m k off = refl
column_stays numbers rows OpWrite y column m k off =
    stored_stays (cells_of numbers y) column rows m k (off (λ e. cc))
column_stays numbers rows OpRw y column m k off = stored_stays (cells_of numbers y) column rows m k (off (λ e. cc))
column_stays numbers rows (OpReduce r) y column m k off =
    merged_stays (cells_of numbers y) column r rows m k (off (λ e. cc))

-- a cell that no modified column has in any row is as it was
pub put_stays : (numbers : List (List ℕ)) (rows : ℕ) (columns : List RowColumn) (frame : List (List ℤ)) (n : ℕ) (m : List ℤ) (k : ℕ)
    → ((c l : ℕ) → c < n → l < rows → access_of (column_in columns c).access ≢ OpRead → cells_of numbers (column_in columns c) l ≢ k)
    → get_or (put_back numbers rows columns frame n m) k (pos 0) ≡ get_or m k (pos 0)
put_stays numbers rows columns frame zero m k off = refl
put_stays numbers rows columns frame (suc n) m k off =
    column_stays numbers rows (access_of (column_in columns n).access) (column_in columns n) (get_or frame n []) (put_back numbers rows columns frame n m) k (λ ne l lt. off n l (omega arith) lt ne)
    ∙ put_stays numbers rows columns frame n m k (λ c l c_lt. off c l (omega (arith, c_lt)))
