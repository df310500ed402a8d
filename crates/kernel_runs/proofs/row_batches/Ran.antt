-- A batch that is put back is one element after another.
use Rattle.std.proofs.Common.{◌≡◌, ◌≢◌, ℕ, zero, suc, ℤ, pos, ◌+◌, ◌-◌, ◌<◌, ◌≤◌, inl, inr, Bool, true, List, [], ◌∷◌, ◌++◌, length, take, drop, get_or, refl, sym, ap, ◌∙◌, subst, FitsSigned, w32, arith, length-append, length-drop}
use Rattle.std.proofs.Math.ListN.{get_or-map}
use Rattle.std.proofs.lemmas.List.{get_or-append-add, get_or-drop, length-map, length-take-le}
use Rattle.op_num.specs.Reduction.{Reduction, unit_of, merged, IsCommuting}
use Rattle.op_num.specs.Access.{Access, OpRead, OpWrite, OpRw, OpReduce}
use Rattle.kernel_model.specs.Resolved.{IsResolved}
use Rattle.kernel_model.specs.declared.types.views.frame.Place.{Place}
use Rattle.kernel_model.specs.Meaning.{Finished, kernel_meaning, read_arg}
use Rattle.kernel_model.specs.Obeys.{Mode}
use Rattle.kernel_model.specs.Independence.{access, dim}
use Rattle.rank_state.specs.declared.scalars.Scalar.{Scalar}
use Rattle.rank_state.specs.declared.scalars.Scalar.TheVariants.{Value, Amount}
use Rattle.rank_state.specs.Windows.{first, operation, amounts, Merges}
use Rattle.kernel_columns.specs.Rows.{at_row, row, RowsFit}
use Rattle.kernel_columns.specs.PutBack.{GivesNumbers}
use Rattle.kernel_columns.specs.PutOrder.{Change, column_put, put_by_columns, ColumnsArePut}
use Rattle.kernel_columns.specs.Batch.{RunsRow, OneByOne, RowsApart}
use Rattle.kernel_columns.specs.Batches.{AreColumns, BatchesRun}
use Rattle.kernel_runs.specs.declared.row_batches.rows.RowLoop.{RowLoop}
use Rattle.kernel_runs.specs.Filled.{cells_of}
use Rattle.kernel_runs.specs.Put.{AmountsFit, put_back_for, put_back, totals}
use Rattle.kernel_runs.specs.RowLoops.{AllowsScalar, scalar_at, column_at, column_access, width, in_frame}
use Rattle.kernel_runs.specs.RowsRun.{RowsRun}
use Rattle.kernel_runs.proofs.row_batches.Accesses.{changing}
use Rattle.kernel_runs.proofs.row_batches.Given.{IsSetOut, looked_up}
use Rattle.kernel_runs.proofs.row_batches.Standing.{ft, mt, behind, fcol, mcell, Stands, stands, all_long, in_the_frame, in_the_memory, first_at, stands_for, rows_apart}
use Rattle.kernel_runs.proofs.row_batches.Picks.{count, pick_of, counted, skipped}
use Rattle.kernel_runs.proofs.row_batches.Moves.{modifies, change_by, mem, acc_column, mem_column, move, is_put, all_moves, most, inner, are_moves, are_columns}
use Rattle.kernel_runs.proofs.row_batches.Merged.{rows_merged, totals_by_rows, amounts_agree}

-- a scalar into which an argument reduces begins with its unit
reduces_from_unit : (variables : List ℤ) (x : Scalar) (own : Access) → AllowsScalar x own → own ≢ OpRead → (r : Reduction) × (own ≡ OpReduce r) × (first variables x ≡ unit_of r)
reduces_from_unit variables (Value at) own a ne = absurd (ne a)
reduces_from_unit variables (Amount at slot how) own a ne = (operation how, a, refl)

-- a scalar that an argument may modify has amounts
amounts_of : (rows : ℕ) (x : Scalar) (own : Access) (column : List ℤ) → AllowsScalar x own → own ≢ OpRead → AmountsFit rows x column → RowsFit rows column
amounts_of rows (Value at) own column a ne fits = absurd (ne a)
amounts_of rows (Amount at slot how) own column a ne fits = fits

no_columns_put : (move : ℕ → ℕ → Change) (n : ℕ) (m : List ℤ) → put_by_columns move 0 n m ≡ m
unfolding put_by_columns
no_columns_put move n m = refl

more_columns_put : (move : ℕ → ℕ → Change) (c n : ℕ) (m : List ℤ) → put_by_columns move (suc c) n m ≡ column_put move c n (put_by_columns move c n m)
unfolding put_by_columns
more_columns_put move c n m = refl

module _ (y : RowLoop) (m : List ℤ) (modes : List Mode) (stand : ℕ → List Place) (batch : List ℕ) (numbers : List (List ℕ))
    (frame : List (List ℤ)) (h : IsSetOut y m modes stand batch numbers frame) (after : List (List ℤ)) where
  abbrev moves : ℕ → ℕ → Change
  moves = all_moves y m modes stand batch numbers frame h after

  abbrev put : ℕ → Bool
  put = is_put y m modes stand batch numbers frame h after

  -- ---- the memory

  -- the change of a column, by its access
  is_change : (c l : ℕ) (a : Access) → c < length y.columns.now → l < h.rows → column_access y c ≡ a → put c ≡ true
      → moves (count put c) l ≡ change_by a (cells_of numbers (column_at y c) l) (at_row l (get_or after c []))
  is_change c l a c_lt l_lt by is =
      ap (λ d. move y m modes stand batch numbers frame h after d l) (pick_of put (width y) c (omega arith) is)
      ∙ ap (λ z. change_by z (mem y m modes stand batch numbers frame h after l c) (at_row l (get_or after c []))) (acc_column y m modes stand batch numbers frame h after c c_lt ∙ by)
      ∙ ap (λ k. change_by a k (at_row l (get_or after c []))) (mem_column y m modes stand batch numbers frame h after l c c_lt ∙ sym (looked_up y m modes stand batch numbers frame h c l c_lt l_lt))

  puts : (c : ℕ) (a : Access) → c < length y.columns.now → column_access y c ≡ a → modifies a ≡ true → put c ≡ true
  puts c a lt by is = ap modifies (acc_column y m modes stand batch numbers frame h after c lt ∙ by) ∙ is

  module _ (law : ColumnsArePut) where
    one_column : (c : ℕ) (a : Access) (z : List ℤ) → c < length y.columns.now → column_access y c ≡ a
        → put_by_columns moves (count put c) h.rows m ≡ z → put_back_for numbers h.rows a (column_at y c) (get_or after c []) z ≡
        put_by_columns moves (count put (suc c)) h.rows m
    one_column c OpRead z lt by e =
        sym e ∙ ap (λ n. put_by_columns moves n h.rows m) (sym (skipped put c (ap modifies (acc_column y m modes stand batch numbers frame h after c lt ∙ by))))
    one_column c OpWrite z lt by e =
        let is = puts c OpWrite lt by refl in
        law.stores moves (count put c) h.rows (cells_of numbers (column_at y c)) (get_or after c []) z (λ l l_lt. is_change c l OpWrite lt l_lt by is)
        ∙ ap (column_put moves (count put c) h.rows) (sym e) ∙ sym (more_columns_put moves (count put c) h.rows m)
        ∙ ap (λ n. put_by_columns moves n h.rows m) (sym (counted put c is))
    one_column c OpRw z lt by e =
        let is = puts c OpRw lt by refl in
        law.stores moves (count put c) h.rows (cells_of numbers (column_at y c)) (get_or after c []) z (λ l l_lt. is_change c l OpRw lt l_lt by is)
        ∙ ap (column_put moves (count put c) h.rows) (sym e) ∙ sym (more_columns_put moves (count put c) h.rows m)
        ∙ ap (λ n. put_by_columns moves n h.rows m) (sym (counted put c is))
    one_column c (OpReduce r) z lt by e =
        let is = puts c (OpReduce r) lt by refl in
        law.merges moves (count put c) h.rows (cells_of numbers (column_at y c)) (get_or after c []) z r (λ l l_lt. is_change c l (OpReduce r) lt l_lt by is)
        ∙ ap (column_put moves (count put c) h.rows) (sym e) ∙ sym (more_columns_put moves (count put c) h.rows m)
        ∙ ap (λ n. put_by_columns moves n h.rows m) (sym (counted put c is))

    put_as_moves : (n : ℕ) → n ≤ length y.columns.now → put_back numbers h.rows y.columns.now after n m ≡ put_by_columns moves (count put n) h.rows m
    put_as_moves zero le = sym (no_columns_put moves h.rows m)
    put_as_moves (suc n) le =
        one_column n (column_access y n) (put_back numbers h.rows y.columns.now after n m) (omega arith) refl (sym (put_as_moves n (omega arith)))

  -- ---- the partials

  abbrev columns_behind : List (List ℤ)
  columns_behind = drop (length y.columns.now) after

  module _ (laws : (r : Reduction) → IsCommuting (unit_of r) (merged r)) (long : width y ≤ length after)
      (columns_fit : (c : ℕ) → c < length y.columns.now → column_access y c ≢ OpRead → RowsFit h.rows (get_or after c []))
      (amounts_fit : (j : ℕ) → j < length y.scalars.now → AmountsFit h.rows (scalar_at y j) (get_or after (length y.columns.now + j) [])) where
    -- what a row's frame gives
    gives : (l : ℕ) → l < h.rows → GivesNumbers modes (ft y m modes stand batch numbers frame h) (row l after)
    gives l l_lt a i i_lt ne =
        subst (FitsSigned w32) (sym (in_the_frame y m modes stand batch numbers frame h after l a i))
        (by (stands y m modes stand batch numbers frame h l a i l_lt i_lt))
      where
        by : Stands y m modes stand batch numbers frame h l a i → FitsSigned w32 (at_row l (get_or after (fcol y m modes stand batch numbers frame h a i) []))
        by (inl d) =
            let c = fcol y m modes stand batch numbers frame h a i in
            columns_fit c d.few (changing (column_access y c) (access modes a) d.allows ne) l l_lt
        by (inr v) =
            let column = get_or after (length y.columns.now + v.number) [] in
            subst (λ c. FitsSigned w32 (at_row l (get_or after c []))) (sym v.column)
            (amounts_of h.rows (scalar_at y v.number) (access modes a) column v.allows ne (amounts_fit v.number v.few) l l_lt)

    abbrev Row : ℕ → List ℤ → List ℤ → Type 0
    Row l between new =
        RunsRow y.code.now.kernel.now modes y.constants.now (ft y m modes stand batch numbers frame h)
        (behind y m modes stand batch numbers frame h) (mt y m modes stand batch numbers frame h l) (row l after) between new

    one_amount : (l : ℕ) (between new : List ℤ) → l < h.rows → length between ≡ length m → (one : Row l between new) → (j : ℕ)
        → j < length y.scalars.now → (AllowsScalar (scalar_at y j) OpRead → ⊥)
        → get_or (row l columns_behind) j (pos 0) ≡ get_or (drop (length between) one.after) j (pos 0)
    one_amount l between new l_lt size one j j_lt changes =
        let f = h.runs.amounts j j_lt changes in
        by f.0 f.1 f.2 f.3 f.4 (stands y m modes stand batch numbers frame h l f.0 f.1 l_lt f.2)
      where
        by : (a i : ℕ) → i < dim modes a → access modes a ≢ OpRead → in_frame y (length m) modes stand batch a i ≡ length y.columns.now + j
            → Stands y m modes stand batch numbers frame h l a i
            → get_or (row l columns_behind) j (pos 0) ≡ get_or (drop (length between) one.after) j (pos 0)
        by a i i_lt ne here (inl d) = absurd (omega (arith, d.few, here))
        by a i i_lt ne here (inr v) =
            let e : v.number ≡ j = omega (arith, v.column, here) in
            let r = reduces_from_unit y.variables.now (scalar_at y v.number) (access modes a) v.allows ne in
            let x : ℤ = at_row l (get_or after (length y.columns.now + j) []) in
            let fits : FitsSigned w32 x = subst (λ n. FitsSigned w32 (at_row l (get_or after (length y.columns.now + n) []))) e
            (amounts_of h.rows (scalar_at y v.number) (access modes a) (get_or after (length y.columns.now + v.number) []) v.allows ne (amounts_fit v.number v.few) l l_lt) in
            let place : mcell y m modes stand batch numbers frame h l a i ≡ length between + v.number = omega (arith, v.cell, size) in
            let old : get_or (between ++ behind y m modes stand batch numbers frame h) (length between + v.number) (pos 0) ≡ unit_of r.0 =
            get_or-append-add between (behind y m modes stand batch numbers frame h) v.number (pos 0) ∙ first_at y.variables.now y.scalars.now v.number v.few ∙ r.2 in
            let value = in_the_frame y m modes stand batch numbers frame h after l a i ∙ ap (λ c. at_row l (get_or after c [])) here in
            get_or-map (at_row l) columns_behind j []
            ∙ ap (at_row l) (get_or-drop (length y.columns.now) after j [])
            ∙ sym ((laws r.0).keeps x fits)
            ∙ sym (get_or-drop (length between) one.after j (pos 0)
            ∙ ap (λ k. get_or one.after (length between + k) (pos 0)) (sym e)
            ∙ ap (λ k. get_or one.after k (pos 0)) (sym place)
            ∙ sym (in_the_memory y m modes stand batch numbers frame h one.after l a i)
            ∙ one.put.amounts r.0 a i i_lt r.1
            ∙ ap (λ k. merged r.0 k (read_arg (ft y m modes stand batch numbers frame h) (row l after ∷ []) a i))
            (in_the_memory y m modes stand batch numbers frame h (between ++ behind y m modes stand batch numbers frame h) l a i
            ∙ ap (λ k. get_or (between ++ behind y m modes stand batch numbers frame h) k (pos 0)) place ∙ old)
            ∙ ap (merged r.0 (unit_of r.0)) value)

    abbrev Rows : ℕ → List ℤ → Type 0
    Rows n new =
        OneByOne y.code.now.kernel.now modes y.constants.now (ft y m modes stand batch numbers frame h)
        (behind y m modes stand batch numbers frame h) (mt y m modes stand batch numbers frame h) (λ l. row l after) n m new

    same_amounts : (l : ℕ) (between new p : List ℤ) → l < h.rows → length between ≡ length m → (one : Row l between new)
        → amounts y.scalars.now (row l columns_behind) p ≡ amounts y.scalars.now (drop (length between) one.after) p
    same_amounts l between new p l_lt size one =
        let count : length (row l columns_behind) ≡ length after - length y.columns.now = length-map columns_behind (at_row l) ∙ length-drop (length y.columns.now) after in
        let left : length (drop (length between) one.after) ≡ length one.after - length between = length-drop (length between) one.after in
        let whole : length (between ++ behind y m modes stand batch numbers frame h) ≡ length between + length
        (behind y m modes stand batch numbers frame h) = length-append between (behind y m modes stand batch numbers frame h) in
        let all : length (m ++ behind y m modes stand batch numbers frame h) ≡ length m + length
        (behind y m modes stand batch numbers frame h) = length-append m (behind y m modes stand batch numbers frame h) in
        amounts_agree y.scalars.now (row l columns_behind) (drop (length between) one.after) p
        (omega (arith, count, long))
        (omega (arith, left, one.put.count, whole, all, all_long y m modes stand batch numbers frame h))
        (λ j lt changes. one_amount l between new l_lt size one j lt changes)

    -- what runs one row after another runs so with the partials
    with_partials : (p : List ℤ) (n : ℕ) (new : List ℤ) → n ≤ h.rows → Rows n new
        → RowsRun y.code.now.kernel.now y.constants.now (behind y m modes stand batch numbers frame h) y.scalars.now
        (mt y m modes stand batch numbers frame h) n m new p (rows_merged y.scalars.now columns_behind n p) × (length new ≡ length m)
    unfolding RowsRun
    with_partials p zero new le same = ((same, refl), ap length same)
    with_partials p (suc n) new le rows =
        let between = rows.0 in
        let one = rows.2 in
        let before = with_partials p n between (omega arith) rows.1 in
        let whole : length (between ++ behind y m modes stand batch numbers frame h) ≡ length between + length
        (behind y m modes stand batch numbers frame h) = length-append between (behind y m modes stand batch numbers frame h) in
        let size : length (take (length between) one.after) ≡ length between = length-take-le (length between) one.after (omega (arith, one.put.count, whole)) in (
          (
            between,
            rows_merged y.scalars.now columns_behind n p,
            before.0,
            record {
              after = one.after;
              ran = one.ran;
              count = one.put.count;
              cells = one.cells;
              partials = same_amounts n between new (rows_merged y.scalars.now columns_behind n p) (omega arith) before.1 one;
            },
          ),
          ap length one.cells ∙ size ∙ before.1,
        )

    module _ (batches : BatchesRun) (columns : ColumnsArePut) (resolved : IsResolved (length y.constants.now) y.code.now.kernel.now)
        (ran : (l : ℕ) → l < h.rows → kernel_meaning (ft y m modes stand batch numbers frame h) y.constants.now y.code.now.kernel.now
        (row l frame ∷ []) ≡ Finished (row l after ∷ [])) where
      abbrev put_as : ℕ → List ℤ
      put_as n = put_by_columns moves (inner y m modes stand batch numbers frame h after) n m

      -- n rows, of which there are as many as are meant
      rows_ran : (n : ℕ) → n ≡ h.rows → Rows n (put_as n)
      rows_ran n e =
          batches y.code.now.kernel.now modes y.constants.now (ft y m modes stand batch numbers frame h)
          (behind y m modes stand batch numbers frame h) (mt y m modes stand batch numbers frame h) (λ l. row l frame)
          (λ l. row l after) n m moves (inner y m modes stand batch numbers frame h after)
          (most y m modes stand batch numbers frame h after) resolved h.runs.obeys
          (subst (λ k. RowsApart modes (mt y m modes stand batch numbers frame h) k (length m)) (sym e) (rows_apart y m modes stand batch numbers frame h))
          (λ l lt. stands_for y m modes stand batch numbers frame h laws l (omega (arith, lt, e)))
          (λ l lt. ran l (omega (arith, lt, e)))
          (λ l lt. gives l (omega (arith, lt, e)))
          (λ l lt. are_moves y m modes stand batch numbers frame h after l (omega (arith, lt, e)))
          (subst (λ k. AreColumns moves (inner y m modes stand batch numbers frame h after)
          (most y m modes stand batch numbers frame h after) k (length m)) (sym e)
          (are_columns y m modes stand batch numbers frame h after))

      abbrev Ran : ℕ → (new p q : List ℤ) → Type 0
      Ran n new p q =
          RowsRun y.code.now.kernel.now y.constants.now (behind y m modes stand batch numbers frame h) y.scalars.now (mt y m modes stand batch numbers frame h) n m new p q

      some_ran : (p : List ℤ) (n : ℕ) → n ≡ h.rows → Ran n (put_as n) p (rows_merged y.scalars.now columns_behind n p)
      some_ran p n e = (with_partials p n (put_as n) (omega (arith, e)) (rows_ran n e)).0

      pub batch_ran : (new p q : List ℤ) → new ≡ put_back numbers h.rows y.columns.now after (length y.columns.now) m
          → q ≡ totals h.rows y.scalars.now columns_behind p → Merges (length p) y.scalars.now → Ran h.rows new p q
      batch_ran new p q is_new is_q slots =
          let same_new : put_as h.rows ≡ new = sym (is_new ∙ put_as_moves columns (length y.columns.now) (omega arith)) in
          let same_q : rows_merged y.scalars.now columns_behind h.rows p ≡ q = sym (is_q ∙ totals_by_rows laws h.rows y.scalars.now columns_behind p h.runs.alike slots) in
          subst (λ z. Ran h.rows z p q) same_new (subst (λ z. Ran h.rows (put_as h.rows) p z) same_q (some_ran p h.rows refl))
