-- Cells into which columns are merged, before any column is put back.
use Rattle.std.proofs.Common.{◌≡◌, ◌≢◌, ℕ, zero, suc, ℤ, pos, ◌<◌, ◌≤◌, ◌⊎◌, inl, inr, ⊎_elim, List, [], length, get_or, refl, sym, ◌∙◌, subst, FitsSigned, w32, arith}
use Rattle.std.specs.Prelude.{slice_index}
use Rattle.std.proofs.lemmas.Bool.{cases_eq}
use Rattle.op_num.specs.Reduction.{Reduction}
use Rattle.op_num.specs.Access.{Access, OpRead, OpWrite, OpRw, OpReduce, access_of}
use Rattle.kernel_model.specs.declared.types.views.frame.Place.{Place}
use Rattle.kernel_model.specs.Obeys.{Mode}
use Rattle.kernel_columns.specs.Rows.{RowsFit}
use Rattle.kernel_runs.specs.declared.row_batches.rows.RowColumn.{RowColumn}
use Rattle.kernel_runs.specs.declared.row_batches.rows.RowLoop.{RowLoop}
use Rattle.kernel_runs.specs.Ways.{AreNumbers}
use Rattle.kernel_runs.specs.Filled.{cells_of}
use Rattle.kernel_runs.specs.Put.{NumbersPutFor, AllNumbersPut, put_back_for, put_back}
use Rattle.kernel_runs.specs.RowLoops.{column_at, column_in, column_access, column_cell, IsWhole, RunsInRows, NeverMeet, ReduceApart}
use Rattle.kernel_runs.proofs.row_batches.Given.{where_looked_up}
use Rattle.kernel_runs.proofs.row_batches.Stays.{stored_stays, merged_stays}

-- what was put back of a column that may be modified
pub modified_fit : (numbers : List (List ℕ)) (rows : ℕ) (acc : Access) (y : RowColumn) (column m : List ℤ) → acc ≢ OpRead → NumbersPutFor numbers rows acc y column m → RowsFit rows column
modified_fit numbers rows OpRead y column m ne h = absurd (ne refl)
modified_fit numbers rows OpWrite y column m ne h = h
modified_fit numbers rows OpRw y column m ne h = h
modified_fit numbers rows (OpReduce r) y column m ne h = h.0

-- whether one of the first rows has the cell
some_row : (stands : ℕ → ℕ) (k n : ℕ) → ((l : ℕ) × (l < n) × (stands l ≡ k)) ⊎ ((l : ℕ) → l < n → stands l ≢ k)
some_row stands k zero = inr (λ l lt. absurd (omega arith))
some_row stands k (suc n) = by (some_row stands k n) (cases_eq (stands n) k)
  where
    by : ((l : ℕ) × (l < n) × (stands l ≡ k)) ⊎ ((l : ℕ) → l < n → stands l ≢ k) → (stands n ≡ k) ⊎ (stands n ≡ k → ⊥)
        → ((l : ℕ) × (l < suc n) × (stands l ≡ k)) ⊎ ((l : ℕ) → l < suc n → stands l ≢ k)
    by (inl found) q = inl (found.0, omega (arith, found.1), found.2)
    by (inr none) (inl e) = inl (n, omega arith, e)
    by (inr none) (inr ne) = inr (λ l lt. ⊎_elim
        (λ (e : l ≡ n). subst (λ j. stands j ≢ k) (sym e) ne)
        (λ (other : l ≡ n → ⊥). none l (let differ : l ≢ n = other in omega arith))
        (cases_eq l n))

module _ (numbers : List (List ℕ)) (rows : ℕ) where
  -- the column is stored into the cell
  abbrev StoredAt : Access → RowColumn → ℕ → Type 0
  StoredAt acc y k = (l : ℕ) × (l < rows) × ((acc ≡ OpWrite) ⊎ (acc ≡ OpRw)) × (cells_of numbers y l ≡ k)

  -- a cell into which a column isn't stored held a number of 32 bits where it does after the column was put back
  column_back : (acc : Access) (y : RowColumn) (column m : List ℤ) (k : ℕ) → (StoredAt acc y k → ⊥) → NumbersPutFor numbers rows acc y column m
      → FitsSigned w32 (get_or (put_back_for numbers rows acc y column m) k (pos 0)) → FitsSigned w32 (get_or m k (pos 0))
  column_back OpRead y column m k off h fits = fits
  column_back OpWrite y column m k off h fits =
      subst (FitsSigned w32) (stored_stays (cells_of numbers y) column rows m k (λ l lt e. off (l, lt, inl refl, e))) fits
  column_back OpRw y column m k off h fits =
      subst (FitsSigned w32) (stored_stays (cells_of numbers y) column rows m k (λ l lt e. off (l, lt, inr refl, e))) fits
  column_back (OpReduce r) y column m k off h fits = ⊎_elim
      (λ (found : (l : ℕ) × (l < rows) × (cells_of numbers y l ≡ k)). subst (λ j. FitsSigned w32 (get_or m j (pos 0))) found.2 (h.1 found.0 found.1))
      (λ (none : (l : ℕ) → l < rows → cells_of numbers y l ≢ k). subst (FitsSigned w32) (merged_stays (cells_of numbers y) column r rows m k none) fits)
      (some_row (cells_of numbers y) k rows)

  module _ (columns : List RowColumn) (frame : List (List ℤ)) (m : List ℤ) (count : ℕ) (puts : AllNumbersPut numbers rows columns frame count m) where
    all_back : (n k : ℕ) → n ≤ count → ((c : ℕ) → c < n → StoredAt (access_of (column_in columns c).access) (column_in columns c) k → ⊥)
        → FitsSigned w32 (get_or (put_back numbers rows columns frame n m) k (pos 0)) → FitsSigned w32 (get_or m k (pos 0))
    all_back zero k le off fits = fits
    all_back (suc n) k le off fits =
        all_back n k (omega arith) (λ c lt. off c (omega (arith, lt)))
        (column_back (access_of (column_in columns n).access) (column_in columns n) (get_or frame n []) (put_back numbers rows columns frame n m) k
        (off n (omega arith)) (puts n (omega arith)) fits)

    -- a column is merged into cells into which none before it is stored
    merges_into : (r : Reduction) (c l : ℕ) → c < count → l < rows → access_of (column_in columns c).access ≡ OpReduce r
        → ((d : ℕ) → d < c → StoredAt (access_of (column_in columns d).access) (column_in columns d) (cells_of numbers (column_in columns c) l) → ⊥)
        → FitsSigned w32 (get_or m (cells_of numbers (column_in columns c) l) (pos 0))
    merges_into r c l c_lt l_lt by off =
        let here = subst (λ a. NumbersPutFor numbers rows a (column_in columns c) (get_or frame c []) (put_back numbers rows columns frame c m)) by (puts c c_lt) in
        all_back c (cells_of numbers (column_in columns c) l) (omega arith) off (here.1 l l_lt)

-- so it is in loops that run in rows
pub reduced_cells : (y : RowLoop) (m : List ℤ) (modes : List Mode) (stand : ℕ → List Place) (batch : List ℕ) (rows : ℕ) (numbers : List (List ℕ))
    (frame : List (List ℤ)) → RunsInRows y (length m) modes stand batch rows → IsWhole y → AreNumbers rows y.ways.now batch numbers
    → AllNumbersPut numbers rows y.columns.now frame (length y.columns.now) m → (r : Reduction) (c l : ℕ) → c < length y.columns.now → l < rows → column_access y c ≡ OpReduce r
    → FitsSigned w32 (get_or m (column_cell y (slice_index batch l) c) (pos 0))
reduced_cells y m modes stand batch rows numbers frame runs whole looked puts r c l c_lt l_lt by =
    subst (λ k. FitsSigned w32 (get_or m k (pos 0))) (where_looked_up y batch rows numbers whole looked c l c_lt l_lt)
    (merges_into numbers rows y.columns.now frame m (length y.columns.now) puts r c l c_lt l_lt by (λ d d_lt h. never d d_lt h.0 h.1 h.2 h.3))
  where
    never : (d : ℕ) → d < c → (i : ℕ) → i < rows → (column_access y d ≡ OpWrite) ⊎ (column_access y d ≡ OpRw) → cells_of numbers (column_at y d) i ≢ cells_of numbers (column_at y c) l
    never d d_lt i i_lt how meet =
        let there : d < length y.columns.now = omega arith in
        let other : d ≢ c = omega arith in
        let stores : column_access y d ≢ OpRead = λ e. ⊎_elim
        (λ (w : column_access y d ≡ OpWrite). let q : OpRead ≡ OpWrite = sym e ∙ w in cc)
        (λ (w : column_access y d ≡ OpRw). let q : OpRead ≡ OpRw = sym e ∙ w in cc)
        how in
        ⊎_elim
        (λ (apart : NeverMeet y (length m) modes stand batch rows d c). apart i l i_lt l_lt
        (sym (where_looked_up y batch rows numbers whole looked d i there i_lt) ∙ meet ∙ where_looked_up y batch rows numbers whole looked c l c_lt l_lt))
        (λ (r' : ReduceApart y d c). ⊎_elim (λ (w : column_access y d ≡ OpWrite). r'.reduces.1 w) (λ (w : column_access y d ≡ OpRw). r'.reduces.2 w) how)
        (runs.apart d c there c_lt other stores)
