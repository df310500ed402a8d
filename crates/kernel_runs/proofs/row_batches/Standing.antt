-- The frames of a batch stand for the memory.
use Rattle.std.proofs.Common.{◌≡◌, ◌≢◌, ℕ, zero, suc, ℤ, pos, ◌+◌, ◌<◌, ◌⊎◌, inl, inr, ⊎_elim, List, [], ◌∷◌, ◌++◌, length, map, get_or, refl, sym, ap, ◌∙◌, subst, FitsSigned, w32, arith, length-append}
use Rattle.std.specs.Prelude.{slice_index}
use Rattle.std.proofs.Math.ListN.{get_or-map, get_or-append, length-map}
use Rattle.std.proofs.lemmas.List.{get_or-append-add}
use Rattle.std.proofs.lemmas.Bool.{cases_eq, eqb-true}
use Rattle.op_num.specs.Reduction.{Reduction, unit_of, merged, IsCommuting}
use Rattle.op_num.specs.Access.{Access, OpRead, OpWrite, OpRw, OpReduce}
use Rattle.kernel_model.specs.declared.types.views.frame.Place.{Place}
use Rattle.kernel_model.specs.Framed.{target_of}
use Rattle.kernel_model.specs.Meaning.{Target, read_arg}
use Rattle.kernel_model.specs.Obeys.{Mode}
use Rattle.kernel_model.specs.Independence.{access, dim, SameStoredAliases, Alone}
use Rattle.rank_state.specs.declared.scalars.Scalar.{Scalar}
use Rattle.rank_state.specs.declared.scalars.Scalar.TheVariants.{Value, Amount}
use Rattle.rank_state.specs.Windows.{first, firsts, operation}
use Rattle.kernel_columns.specs.Rows.{at_row, row}
use Rattle.kernel_columns.specs.PutBack.{StandsFor}
use Rattle.kernel_columns.specs.Batch.{RowsApart}
use Rattle.kernel_runs.specs.declared.row_batches.rows.RowLoop.{RowLoop}
use Rattle.kernel_runs.specs.Filled.{FilledFor, cells_of}
use Rattle.kernel_runs.specs.RowLoops.{Allows, AllowsScalar, scalar_in, column_at, scalar_at, column_access, column_cell, OnDat, OnVariable, in_frame, in_memory, ReduceApart, NeverMeet}
use Rattle.kernel_runs.proofs.OneArray.{no_array, one_array, read_first}
use Rattle.kernel_runs.proofs.row_batches.Accesses.{changing, reading, reducing, reduced_by, both_ways, only_reduces}
use Rattle.kernel_runs.proofs.row_batches.Given.{IsSetOut, looked_up, in_row, in_rows}
use Rattle.lemmas.proofs.Numbers.{eq_both}

-- ---- scalars

pub first_at : (variables : List ℤ) (scalars : List Scalar) (j : ℕ) → j < length scalars → get_or (firsts variables scalars) j (pos 0) ≡ first variables (scalar_in scalars j)
first_at variables [] j lt = absurd (omega arith)
first_at variables (x ∷ xs) zero lt = refl
first_at variables (x ∷ xs) (suc j) lt = first_at variables xs j (omega arith)

pub firsts_length : (variables : List ℤ) (scalars : List Scalar) → length (firsts variables scalars) ≡ length scalars
firsts_length variables [] = refl
firsts_length variables (x ∷ xs) = ap suc (firsts_length variables xs)

amount_first : (variables : List ℤ) (x : Scalar) (own : Access) (r : Reduction) → AllowsScalar x own → own ≡ OpReduce r → first variables x ≡ unit_of r
amount_first variables (Value at) own r a e = let h : OpRead ≡ OpReduce r = sym a ∙ e in absurd cc
amount_first variables (Amount at slot how) own r a e = same_unit (operation how) r (sym a ∙ e)
  where
    same_unit : (p q : Reduction) → OpReduce p ≡ OpReduce q → unit_of p ≡ unit_of q
    same_unit p q e = ap (by_unit) e
      where
        by_unit : Access → ℤ
        by_unit OpRead = pos 0
        by_unit OpWrite = pos 0
        by_unit OpRw = pos 0
        by_unit (OpReduce s) = unit_of s

reads_value : (x : Scalar) (own other : Access) (r : Reduction) → AllowsScalar x own → own ≡ OpReduce r → AllowsScalar x other → other ≡ OpReduce r
reads_value (Value at) own other r a e b = let h : OpRead ≡ OpReduce r = sym a ∙ e in absurd cc
reads_value (Amount at slot how) own other r a e b = b ∙ sym a ∙ e

module _ (y : RowLoop) (m : List ℤ) (modes : List Mode) (stand : ℕ → List Place) (batch : List ℕ) (numbers : List (List ℕ))
    (frame : List (List ℤ)) (h : IsSetOut y m modes stand batch numbers frame) where
  abbrev x_of : ℕ → ℕ
  x_of l = slice_index batch l

  abbrev pub ft : List Target
  ft = map target_of y.places.now

  abbrev pub mt : ℕ → List Target
  mt l = map target_of (stand (x_of l))

  abbrev pub behind : List ℤ
  behind = firsts y.variables.now y.scalars.now

  abbrev pub fcol : (a i : ℕ) → ℕ
  fcol a i = in_frame y (length m) modes stand batch a i

  abbrev pub mcell : (l a i : ℕ) → ℕ
  mcell l a i = in_memory y (length m) modes stand batch (x_of l) a i

  abbrev pub Stands : (l a i : ℕ) → Type 0
  Stands l a i = OnDat y (x_of l) (access modes a) (fcol a i) (mcell l a i) ⊎ OnVariable y (length m) (access modes a) (fcol a i) (mcell l a i)

  pub stands : (l a i : ℕ) → l < h.rows → i < dim modes a → Stands l a i
  stands l a i l_lt i_lt = h.runs.stands l a i l_lt i_lt

  pub all_long : length (m ++ behind) ≡ length m + length y.scalars.now
  all_long = length-append m behind ∙ ap (λ n. length m + n) (firsts_length y.variables.now y.scalars.now)

  inside : (l c : ℕ) → l < h.rows → c < length y.columns.now → column_cell y (x_of l) c < length m
  inside l c l_lt c_lt = (h.leads l l_lt).inside c c_lt

  frame_lt : (l a i : ℕ) → Stands l a i → fcol a i < length frame
  frame_lt l a i (inl d) = omega (arith, d.few, h.long)
  frame_lt l a i (inr v) = omega (arith, v.few, v.column, h.long)

  memory_lt : (l a i : ℕ) → l < h.rows → Stands l a i → mcell l a i < length (m ++ behind)
  memory_lt l a i l_lt (inl d) = omega (arith, inside l (fcol a i) l_lt d.few, d.cell, all_long)
  memory_lt l a i l_lt (inr v) = omega (arith, v.few, v.cell, all_long)

  -- what a frame has of a component
  pub in_the_frame : (columns : List (List ℤ)) (l a i : ℕ) → read_arg ft (row l columns ∷ []) a i ≡ at_row l (get_or columns (fcol a i) [])
  in_the_frame columns l a i =
      read_first ft (no_array y.places.now) (row l columns ∷ []) a i ∙ get_or-map (at_row l) columns (fcol a i) []

  pub in_the_memory : (cells : List ℤ) (l a i : ℕ) → read_arg (mt l) (cells ∷ []) a i ≡ get_or cells (mcell l a i) (pos 0)
  in_the_memory cells l a i = read_first (mt l) (no_array (stand (x_of l))) (cells ∷ []) a i

  -- ---- one cell in the frame is one in the memory

  same_stand : (l a i b j : ℕ) → Stands l a i → Stands l b j → fcol a i ≡ fcol b j → mcell l a i ≡ mcell l b j
  same_stand l a i b j (inl d) (inl e) same = d.cell ∙ ap (column_cell y (x_of l)) same ∙ sym e.cell
  same_stand l a i b j (inl d) (inr v) same = absurd (omega (arith, d.few, v.column, same))
  same_stand l a i b j (inr v) (inl d) same = absurd (omega (arith, d.few, v.column, same))
  same_stand l a i b j (inr v) (inr w) same = omega (arith, v.column, v.cell, w.column, w.cell, same)

  other_stand : (l a i b j : ℕ) → l < h.rows → access modes a ≢ OpRead → Stands l a i → Stands l b j → mcell l a i ≡ mcell l b j → fcol a i ≡ fcol b j
  other_stand l a i b j l_lt changes (inl d) (inl e) same = ⊎_elim
      (λ (q : fcol a i ≡ fcol b j). q)
      (λ (ne : fcol a i ≡ fcol b j → ⊥). absurd
      (in_row y m modes stand batch numbers frame h (fcol a i) (fcol b j) l d.few e.few ne
      (changing (column_access y (fcol a i)) (access modes a) d.allows changes) l_lt (sym d.cell ∙ same ∙ e.cell)))
      (cases_eq (fcol a i) (fcol b j))
  other_stand l a i b j l_lt changes (inl d) (inr v) same = absurd (omega (arith, inside l (fcol a i) l_lt d.few, d.cell, v.cell, same))
  other_stand l a i b j l_lt changes (inr v) (inl d) same = absurd (omega (arith, inside l (fcol b j) l_lt d.few, d.cell, v.cell, same))
  other_stand l a i b j l_lt changes (inr v) (inr w) same = omega (arith, v.column, v.cell, w.column, w.cell, same)

  aliases : (l : ℕ) → l < h.rows → SameStoredAliases modes ft (mt l)
  aliases l l_lt a i b j i_lt j_lt changes =
      let p = stands l a i l_lt i_lt in
      let q = stands l b j l_lt j_lt in
      one_array ft (no_array y.places.now) a i b j
      ∙ eq_both (fcol a i) (fcol b j) (mcell l a i) (mcell l b j) (same_stand l a i b j p q) (other_stand l a i b j l_lt changes p q)
      ∙ sym (one_array (mt l) (no_array (stand (x_of l))) a i b j)

  -- ---- what the frames begin with

  column_input : (c l : ℕ) → c < length y.columns.now → l < h.rows → (column_access y c ≡ OpRead) ⊎ (column_access y c ≡ OpRw)
      → at_row l (get_or frame c []) ≡ get_or m (column_cell y (x_of l) c) (pos 0)
  column_input c l c_lt l_lt how =
      kinds how ∙ ap (λ k. get_or m k (pos 0)) (looked_up y m modes stand batch numbers frame h c l c_lt l_lt)
    where
      kinds : (column_access y c ≡ OpRead) ⊎ (column_access y c ≡ OpRw) → at_row l (get_or frame c []) ≡ get_or m (cells_of numbers (column_at y c) l) (pos 0)
      kinds (inl e) = subst (λ acc. FilledFor numbers h.rows acc m (column_at y c) (get_or frame c [])) e (h.filled c c_lt) l l_lt
      kinds (inr e) = subst (λ acc. FilledFor numbers h.rows acc m (column_at y c) (get_or frame c [])) e (h.filled c c_lt) l l_lt

  input : (l a i : ℕ) → l < h.rows → (access modes a ≡ OpRead) ⊎ (access modes a ≡ OpRw) → Stands l a i → at_row l (get_or frame (fcol a i) []) ≡ get_or (m ++ behind) (mcell l a i) (pos 0)
  input l a i l_lt how (inl d) =
      let lt : mcell l a i < length m = omega (arith, inside l (fcol a i) l_lt d.few, d.cell) in
      column_input (fcol a i) l d.few l_lt (reading (column_access y (fcol a i)) (access modes a) d.allows how)
      ∙ ap (λ k. get_or m k (pos 0)) (sym d.cell)
      ∙ sym (get_or-append m behind (pos 0) (mcell l a i) lt)
  input l a i l_lt how (inr v) =
      ap (λ c. at_row l (get_or frame c [])) v.column
      ∙ h.firsts v.number l v.few l_lt
      ∙ sym (first_at y.variables.now y.scalars.now v.number v.few)
      ∙ sym (get_or-append-add m behind v.number (pos 0))
      ∙ ap (λ k. get_or (m ++ behind) k (pos 0)) (sym v.cell)

  unit : (r : Reduction) (l a i : ℕ) → l < h.rows → access modes a ≡ OpReduce r → Stands l a i → at_row l (get_or frame (fcol a i) []) ≡ unit_of r
  unit r l a i l_lt by (inl d) =
      subst (λ acc. FilledFor numbers h.rows acc m (column_at y (fcol a i)) (get_or frame (fcol a i) []))
      (reducing (column_access y (fcol a i)) (access modes a) r d.allows by) (h.filled (fcol a i) d.few) l l_lt
  unit r l a i l_lt by (inr v) =
      ap (λ c. at_row l (get_or frame c [])) v.column
      ∙ h.firsts v.number l v.few l_lt
      ∙ amount_first y.variables.now (scalar_at y v.number) (access modes a) r v.allows by

  alone_at : (r : Reduction) (l a i b j : ℕ) → access modes a ≡ OpReduce r → Stands l a i → Stands l b j → fcol b j ≡ fcol a i → access modes b ≡ OpReduce r
  alone_at r l a i b j by (inl d) (inl e) same =
      reduced_by (column_access y (fcol b j)) (access modes b) r e.allows (ap (column_access y) same ∙ reducing (column_access y (fcol a i)) (access modes a) r d.allows by)
  alone_at r l a i b j by (inl d) (inr v) same = absurd (omega (arith, d.few, v.column, same))
  alone_at r l a i b j by (inr v) (inl d) same = absurd (omega (arith, d.few, v.column, same))
  alone_at r l a i b j by (inr v) (inr w) same =
      let e : w.number ≡ v.number = omega (arith, v.column, w.column, same) in
      reads_value (scalar_at y v.number) (access modes a) (access modes b) r v.allows by (subst (λ n. AllowsScalar (scalar_at y n) (access modes b)) e w.allows)

  alone : (r : Reduction) (l a i : ℕ) → l < h.rows → i < dim modes a → access modes a ≡ OpReduce r → Alone modes r ft a i
  alone r l a i l_lt i_lt by b j j_lt same =
      alone_at r l a i b j by (stands l a i l_lt i_lt) (stands l b j l_lt j_lt)
      (eqb-true (fcol b j) (fcol a i) (sym (one_array ft (no_array y.places.now) b j a i) ∙ same))

  -- a cell into which the row reduces
  reduced_fits : ((r : Reduction) → IsCommuting (unit_of r) (merged r)) → (r : Reduction) (l a i : ℕ) → l < h.rows → access modes a ≡ OpReduce r
      → Stands l a i → FitsSigned w32 (get_or (m ++ behind) (mcell l a i) (pos 0))
  reduced_fits laws r l a i l_lt by (inl d) =
      let lt : mcell l a i < length m = omega (arith, inside l (fcol a i) l_lt d.few, d.cell) in
      subst (FitsSigned w32) (ap (λ k. get_or m k (pos 0)) (sym d.cell) ∙ sym (get_or-append m behind (pos 0) (mcell l a i) lt))
      (h.reduced r (fcol a i) l d.few l_lt (reducing (column_access y (fcol a i)) (access modes a) r d.allows by))
  reduced_fits laws r l a i l_lt by (inr v) =
      subst (FitsSigned w32)
      (sym (ap (λ k. get_or (m ++ behind) k (pos 0)) v.cell
      ∙ get_or-append-add m behind v.number (pos 0)
      ∙ first_at y.variables.now y.scalars.now v.number v.few
      ∙ amount_first y.variables.now (scalar_at y v.number) (access modes a) r v.allows by))
      (laws r).unit_fits

  pub stands_for : ((r : Reduction) → IsCommuting (unit_of r) (merged r)) → (l : ℕ) → l < h.rows → StandsFor modes ft (mt l) (row l frame) (m ++ behind)
  stands_for laws l l_lt = record {
    suits_frame = record {
      counts = h.runs.frame_counts;
      arrays = λ a i lt. subst (λ x. x < 1) (sym (no_array y.places.now a)) (omega arith);
      cells = λ a i lt.
          subst (λ x. fcol a i < length (get_or (row l frame ∷ []) x [])) (sym (no_array y.places.now a))
          (subst (λ n. fcol a i < n) (sym (length-map frame (at_row l))) (frame_lt l a i (stands l a i l_lt lt)));
      numbers = λ r a i lt by. subst (FitsSigned w32) (sym (in_the_frame frame l a i ∙ unit r l a i l_lt by (stands l a i l_lt lt))) (laws r).unit_fits;
    };
    suits_memory = record {
      counts = λ a. h.runs.counts l a l_lt;
      arrays = λ a i lt. subst (λ x. x < 1) (sym (no_array (stand (x_of l)) a)) (omega arith);
      cells = λ a i lt.
          subst (λ x. mcell l a i < length (get_or ((m ++ behind) ∷ []) x [])) (sym (no_array (stand (x_of l)) a))
          (memory_lt l a i l_lt (stands l a i l_lt lt));
      numbers = λ r a i lt by. subst (FitsSigned w32) (sym (in_the_memory (m ++ behind) l a i)) (reduced_fits laws r l a i l_lt by (stands l a i l_lt lt));
    };
    aliases = aliases l l_lt;
    inputs = λ a i lt how. in_the_frame frame l a i ∙ input l a i l_lt how (stands l a i l_lt lt) ∙ sym (in_the_memory (m ++ behind) l a i);
    units = λ r a i lt by. in_the_frame frame l a i ∙ unit r l a i l_lt by (stands l a i l_lt lt);
    alone = λ r a i lt by. alone r l a i l_lt lt by;
  }

  -- ---- no row reads what another one modifies

  apart_at : (i l a b x z : ℕ) → i < h.rows → l < h.rows → i ≢ l → access modes a ≢ OpRead → (access modes b ≡ OpRead)
      ⊎ (access modes b ≡ OpRw) → mcell l b z < length m → Stands i a x → Stands l b z → mcell i a x ≢ mcell l b z
  apart_at i l a b x z i_lt l_lt ne changes how lt (inr v) q same = omega (arith, v.cell, lt, same)
  apart_at i l a b x z i_lt l_lt ne changes how lt (inl d) (inr v) same = omega (arith, v.cell, lt)
  apart_at i l a b x z i_lt l_lt ne changes how lt (inl d) (inl e) same =
      columns (fcol a x) (fcol b z) d.few e.few d.allows e.allows (sym d.cell ∙ same ∙ e.cell)
    where
      columns : (c k : ℕ) → c < length y.columns.now → k < length y.columns.now → Allows (column_access y c) (access modes a)
          → Allows (column_access y k) (access modes b) → column_cell y (x_of i) c ≡ column_cell y (x_of l) k → ⊥
      columns c k c_lt k_lt c_allows k_allows meet = ⊎_elim
          (λ (q : c ≡ k).
          let rw = both_ways (column_access y c) (access modes a) (access modes b) c_allows changes (subst (λ n. Allows (column_access y n) (access modes b)) (sym q) k_allows) how in
          in_rows y m modes stand batch numbers frame h c i l c_lt (inr rw) i_lt l_lt ne (meet ∙ ap (column_cell y (x_of l)) (sym q)))
          (λ (other : c ≡ k → ⊥). ⊎_elim
          (λ (never : NeverMeet y (length m) modes stand batch h.rows c k). never i l i_lt l_lt meet)
          (λ (r : ReduceApart y c k). only_reduces (column_access y c) (column_access y k) r.access r.reduces (reading (column_access y k) (access modes b) k_allows how))
          (h.runs.apart c k c_lt k_lt other (changing (column_access y c) (access modes a) c_allows changes)))
          (cases_eq c k)

  pub rows_apart : RowsApart modes mt h.rows (length m)
  rows_apart i l a b x z i_lt l_lt ne x_lt changes z_lt how lt =
      apart_at i l a b x z i_lt l_lt ne changes how lt (stands i a x i_lt x_lt) (stands l b z l_lt z_lt)
