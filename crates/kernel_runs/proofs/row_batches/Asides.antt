-- Batches that ran aside, and the places of which they are.
use Rattle.std.proofs.Common.{◌≡◌, ◌≢◌, ℕ, ℤ, pos, ◌<◌, ◌⊎◌, inl, inr, ⊎_elim, List, [], length, get_or, refl, sym, ap, ◌∙◌}
use Rattle.std.specs.Prelude.{slice_index}
use Rattle.std.proofs.lemmas.Bool.{cases_eq}
use Rattle.op_num.specs.Access.{Access, OpRead, OpWrite, OpRw, OpReduce}
use Rattle.kernel_model.specs.declared.types.views.frame.Place.{Place}
use Rattle.kernel_model.specs.Obeys.{Mode}
use Rattle.kernel_runs.specs.declared.row_batches.rows.RowColumn.{RowColumn}
use Rattle.kernel_runs.specs.declared.row_batches.rows.RowLoop.{RowLoop}
use Rattle.kernel_runs.specs.Ways.{local_in}
use Rattle.kernel_runs.specs.Filled.{FilledFor, cells_of}
use Rattle.kernel_runs.specs.RowLoops.{column_at, column_access, column_cell, way_of, IsWhole, RunsInRows, NeverMeet, ReduceApart}
use Rattle.kernel_runs.specs.Asides.{NeverReadOthers, ReadsAlike, IsAside}
use Rattle.kernel_runs.proofs.row_batches.Accesses.{same_number, only_reduces}
use Rattle.kernel_runs.proofs.row_batches.Given.{where_looked_up}

-- a column that was filled from one memory was so from another that has the same in the cells that it reads
filled_alike : (numbers : List (List ℕ)) (rows : ℕ) (a : Access) (old new : List ℤ) (y : RowColumn) (column : List ℤ)
    → ((l : ℕ) → l < rows → (a ≡ OpRead) ⊎ (a ≡ OpRw) → get_or new (cells_of numbers y l) (pos 0) ≡ get_or old (cells_of numbers y l) (pos 0))
    → FilledFor numbers rows a old y column → FilledFor numbers rows a new y column
filled_alike numbers rows OpRead old new y column same h = λ l lt. h l lt ∙ sym (same l lt (inl refl))
filled_alike numbers rows OpRw old new y column same h = λ l lt. h l lt ∙ sym (same l lt (inr refl))
filled_alike numbers rows OpWrite old new y column same h = h
filled_alike numbers rows (OpReduce r) old new y column same h = h

pub stays : (y : RowLoop) (batch : List ℕ) (rows : ℕ) (numbers : List (List ℕ)) (old new : List ℤ) (frame : List (List ℤ))
    → IsWhole y → ReadsAlike y batch rows old new → IsAside y batch rows numbers old frame → IsAside y batch rows numbers new frame
stays y batch rows numbers old new frame whole alike h = record {
  few = h.few;
  differ = h.differ;
  ways = h.ways;
  looked = h.looked;
  apart = h.apart;
  begun = h.begun;
  long = h.long;
  filled = λ c c_lt.
      filled_alike numbers rows (column_access y c) old new (column_at y c) (get_or h.begun c [])
      (λ l l_lt how. alike l (cells_of numbers (column_at y c) l) l_lt (c, c_lt, how, sym (where_looked_up y batch rows numbers whole h.looked c l c_lt l_lt)))
      (h.filled c c_lt);
  firsts = h.firsts;
  wide = h.wide;
  ran = h.ran;
}

-- what one place modifies another doesn't read
pub apart : (y : RowLoop) (cells : ℕ) (modes : List Mode) (stand : ℕ → List Place) (places : List ℕ) (n : ℕ)
    → RunsInRows y cells modes stand places n → NeverReadOthers y places n
apart y cells modes stand places n h i l k i_lt l_lt differ changed read =
    columns changed.0 read.0 changed.1 read.1 changed.2 read.2 (changed.3 ∙ sym read.3)
  where
    one_column : (c : ℕ) → c < length y.columns.now → column_access y c ≡ OpRw → column_cell y (slice_index places i) c ≡ column_cell y (slice_index places l) c → ⊥
    one_column c c_lt by meet =
        let direct = h.stored c c_lt (inr by) in
        let same = same_number (column_at y c).cell (column_at y c).cell (column_at y c).dim (column_at y c).dim
        (local_in (way_of y c) (slice_index places i)) (local_in (way_of y c) (slice_index places l)) refl refl (h.dims c c_lt) meet in
        differ direct.1 (sym (ap (λ w. local_in w (slice_index places i)) direct.0) ∙ same ∙ ap (λ w. local_in w (slice_index places l)) direct.0)

    columns : (c d : ℕ) → c < length y.columns.now → d < length y.columns.now → column_access y c ≢ OpRead → (column_access y d ≡ OpRead)
        ⊎ (column_access y d ≡ OpRw) → column_cell y (slice_index places i) c ≡ column_cell y (slice_index places l) d → ⊥
    columns c d c_lt d_lt changes how meet = ⊎_elim
        (λ (e : c ≡ d). ⊎_elim
        (λ (r : column_access y d ≡ OpRead). changes (ap (column_access y) e ∙ r))
        (λ (r : column_access y d ≡ OpRw). one_column c c_lt (ap (column_access y) e ∙ r) (meet ∙ ap (column_cell y (slice_index places l)) (sym e)))
        how)
        (λ (ne : c ≡ d → ⊥). ⊎_elim
        (λ (never : NeverMeet y cells modes stand places n c d). never i l i_lt l_lt meet)
        (λ (r : ReduceApart y c d). only_reduces (column_access y c) (column_access y d) r.access r.reduces how)
        (h.apart c d c_lt d_lt ne changes))
        (cases_eq c d)
