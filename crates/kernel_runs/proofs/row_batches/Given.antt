-- What a batch meets whose columns were filled and are put back.
use Rattle.std.proofs.Common.{◌≡◌, ◌≢◌, ℕ, ℤ, pos, ◌+◌, ◌*◌, ◌<◌, ◌≤◌, ◌⊎◌, ⊎_elim, List, [], length, get_or, refl, sym, ap, ◌∙◌, subst, true, FitsSigned, w32, arith}
use Rattle.std.specs.Prelude.{slice_index}
use Rattle.op_num.specs.Reduction.{Reduction}
use Rattle.op_num.specs.Access.{OpRead, OpWrite, OpRw, OpReduce}
use Rattle.kernel_model.specs.declared.types.views.frame.Place.{Place}
use Rattle.kernel_model.specs.Obeys.{Mode}
use Rattle.rank_state.specs.Windows.{first}
use Rattle.kernel_columns.specs.Rows.{at_row}
use Rattle.kernel_runs.specs.declared.row_batches.rows.RowLoop.{RowLoop}
use Rattle.kernel_runs.specs.Ways.{local_in, AreNumbers}
use Rattle.kernel_runs.specs.Meeting.{AreDifferent, NeverInPairs}
use Rattle.kernel_runs.specs.Filled.{IsFilled, cells_of}
use Rattle.kernel_runs.specs.RowLoops.{column_at, column_in, scalar_in, column_access, column_cell, way_of, width, IsWhole, LeadsFrom, RunsInRows, NeverMeet, ReduceApart}
use Rattle.kernel_runs.proofs.row_batches.Accesses.{same_number}

-- a column's cell in a row is where it was looked up
pub where_looked_up : (y : RowLoop) (batch : List ℕ) (rows : ℕ) (numbers : List (List ℕ)) → IsWhole y
    → AreNumbers rows y.ways.now batch numbers → (c l : ℕ) → c < length y.columns.now → l < rows
    → cells_of numbers (column_at y c) l ≡ column_cell y (slice_index batch l) c
where_looked_up y batch rows numbers whole looked c l c_lt l_lt =
    let e : slice_index (get_or numbers (column_at y c).way []) l ≡ local_in (way_of y c) (slice_index batch l) = looked (column_at y c).way l (whole.ways c c_lt) l_lt in
    let d = (column_at y c).dim in
    let same : slice_index (get_or numbers (column_at y c).way []) l * d ≡ local_in (way_of y c) (slice_index batch l) * d = ap (λ n. n * d) e in
    omega (arith, same)

-- so many rows of a batch were looked up and filled, and do not meet; the cells into which they reduce hold numbers of 32 bits
pub record IsSetOut (y : RowLoop) (m : List ℤ) (modes : List Mode) (stand : ℕ → List Place) (batch : List ℕ) (numbers : List (List ℕ)) (frame : List (List ℤ)) : Type 0 where
  pub rows : ℕ
  pub runs : RunsInRows y (length m) modes stand batch rows
  pub whole : IsWhole y
  pub leads : (l : ℕ) → l < rows → LeadsFrom y (length m) (slice_index batch l)
  pub differ : y.differ ≡ true → AreDifferent rows batch
  pub looked : AreNumbers rows y.ways.now batch numbers
  pub apart : NeverInPairs rows y.pairs.now numbers
  pub filled : (c : ℕ) → c < length y.columns.now → IsFilled numbers rows m (column_in y.columns.now c) (get_or frame c [])
  pub firsts : (j l : ℕ) → j < length y.scalars.now → l < rows → at_row l (get_or frame (length y.columns.now + j) []) ≡ first y.variables.now (scalar_in y.scalars.now j)
  pub long : width y ≤ length frame
  pub reduced : (r : Reduction) (c l : ℕ) → c < length y.columns.now → l < rows → column_access y c ≡ OpReduce r
      → FitsSigned w32 (get_or m (column_cell y (slice_index batch l) c) (pos 0))

module _ (y : RowLoop) (m : List ℤ) (modes : List Mode) (stand : ℕ → List Place) (batch : List ℕ) (numbers : List (List ℕ))
    (frame : List (List ℤ)) (h : IsSetOut y m modes stand batch numbers frame) where
  -- the place of a row
  abbrev pub place : ℕ → ℕ
  place l = slice_index batch l

  -- a column's cell in a row is where it was looked up
  pub looked_up : (c l : ℕ) → c < length y.columns.now → l < h.rows → cells_of numbers (column_at y c) l ≡ column_cell y (place l) c
  looked_up = where_looked_up y batch h.rows numbers h.whole h.looked

  tested : (c d l : ℕ) → c < length y.columns.now → d < length y.columns.now → l < h.rows → ReduceApart y c d → local_in (way_of y c) (place l) ≢ local_in (way_of y d) (place l)
  tested c d l c_lt d_lt l_lt r same = ⊎_elim
      (λ e. others (subst (λ p. slice_index (get_or numbers p.0 []) l ≢ slice_index (get_or numbers p.1 []) l) e (h.apart r.tested.0 l r.tested.1 l_lt)))
      (λ e. others (λ q. subst (λ p. slice_index (get_or numbers p.0 []) l ≢ slice_index (get_or numbers p.1 []) l) e (h.apart r.tested.0 l r.tested.1 l_lt) (sym q)))
      r.tested.2
    where
      others : slice_index (get_or numbers (column_at y c).way []) l ≢ slice_index (get_or numbers (column_at y d).way []) l → ⊥
      others ne =
          ne (h.looked (column_at y c).way l (h.whole.ways c c_lt) l_lt ∙ same ∙ sym (h.looked (column_at y d).way l (h.whole.ways d d_lt) l_lt))

  -- two columns, one of which may be modified, have different cells in a row
  pub in_row : (c d l : ℕ) → c < length y.columns.now → d < length y.columns.now → c ≢ d → column_access y c ≢ OpRead → l < h.rows → column_cell y (place l) c ≢ column_cell y (place l) d
  in_row c d l c_lt d_lt ne changes l_lt same = ⊎_elim
      (λ (never : NeverMeet y (length m) modes stand batch h.rows c d). never l l l_lt l_lt same)
      (λ (r : ReduceApart y c d). tested c d l c_lt d_lt l_lt r
      (same_number (column_at y c).cell (column_at y d).cell (column_at y c).dim (column_at y d).dim (local_in (way_of y c) (place l))
      (local_in (way_of y d) (place l)) r.cell r.dim (h.runs.dims c c_lt) same))
      (h.runs.apart c d c_lt d_lt ne changes)

  -- a column that is stored to has different cells in two rows
  pub in_rows : (c i l : ℕ) → c < length y.columns.now → (column_access y c ≡ OpWrite) ⊎ (column_access y c ≡ OpRw) → i < h.rows
      → l < h.rows → i ≢ l → column_cell y (place i) c ≢ column_cell y (place l) c
  in_rows c i l c_lt how i_lt l_lt ne same =
      let direct = h.runs.stored c c_lt how in
      let numbers_same = same_number (column_at y c).cell (column_at y c).cell (column_at y c).dim (column_at y c).dim
      (local_in (way_of y c) (place i)) (local_in (way_of y c) (place l)) refl refl (h.runs.dims c c_lt) same in
      h.differ direct.1 i l i_lt l_lt ne
      (sym (ap (λ w. local_in w (place i)) direct.0) ∙ numbers_same ∙ ap (λ w. local_in w (place l)) direct.0)
