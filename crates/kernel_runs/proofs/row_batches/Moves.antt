-- The changes that put a batch back: one of each column, and of each scalar behind them, that may be modified.
use Rattle.std.proofs.Common.{◌≡◌, ◌≢◌, ℕ, ℤ, ◌+◌, ◌-◌, ◌<◌, ◌≤◌, ◌⊎◌, inl, inr, ⊎_elim, Bool, true, false, cond, List, [], ◌∷◌, length, get_or, refl, sym, ap, ◌∙◌, subst, arith}
use Rattle.std.specs.Prelude.{slice_index, nat_lt}
use Rattle.std.proofs.lemmas.Bool.{cases_lt, lt-ltb, le-ltb}
use Rattle.op_num.specs.Access.{Access, OpRead, OpWrite, OpRw, OpReduce}
use Rattle.kernel_model.specs.declared.types.views.frame.Place.{Place}
use Rattle.kernel_model.specs.Meaning.{target_at, read_arg}
use Rattle.kernel_model.specs.Obeys.{Mode}
use Rattle.kernel_model.specs.Independence.{access, dim}
use Rattle.rank_state.specs.declared.scalars.Scalar.{Scalar}
use Rattle.rank_state.specs.declared.scalars.Scalar.TheVariants.{Value, Amount}
use Rattle.rank_state.specs.Windows.{operation}
use Rattle.kernel_columns.specs.Rows.{at_row, row}
use Rattle.kernel_columns.specs.PutOrder.{Change, Store, Merge, MaySwap}
use Rattle.kernel_columns.specs.RowMoves.{cell_of, IsMove, AreMoves}
use Rattle.kernel_columns.specs.Batches.{AreColumns}
use Rattle.kernel_runs.specs.declared.row_batches.rows.RowLoop.{RowLoop}
use Rattle.kernel_runs.specs.RowLoops.{Allows, AllowsScalar, scalar_at, column_access, column_cell, width, ReduceApart, NeverMeet, IsModified}
use Rattle.kernel_runs.proofs.OneArray.{no_array}
use Rattle.kernel_runs.proofs.row_batches.Accesses.{changing}
use Rattle.kernel_runs.proofs.row_batches.Given.{IsSetOut, in_row}
use Rattle.kernel_runs.proofs.row_batches.Standing.{ft, mt, fcol, mcell, Stands, stands, in_the_frame}
use Rattle.kernel_runs.proofs.row_batches.Picks.{count, pick, pick_of, picked, differ, below, more_below, first_ones, later_ones}

-- ---- one change

abbrev pub modifies : Access → Bool
modifies OpRead = false
modifies OpWrite = true
modifies OpRw = true
modifies (OpReduce r) = true

modified : (acc : Access) → acc ≢ OpRead → modifies acc ≡ true
modified OpRead ne = absurd (ne refl)
modified OpWrite ne = refl
modified OpRw ne = refl
modified (OpReduce r) ne = refl

not_read : (acc : Access) → modifies acc ≡ true → acc ≢ OpRead
not_read acc e q = let h : false ≡ true = ap modifies (sym q) ∙ e in cc

abbrev pub change_by : Access → ℕ → ℤ → Change
change_by OpRead k v = Store k v
change_by OpWrite k v = Store k v
change_by OpRw k v = Store k v
change_by (OpReduce r) k v = Merge r k v

its_cell : (acc : Access) (k : ℕ) (v : ℤ) → cell_of (change_by acc k v) ≡ k
its_cell OpRead k v = refl
its_cell OpWrite k v = refl
its_cell OpRw k v = refl
its_cell (OpReduce r) k v = refl

is_move : (shared own : Access) (k : ℕ) (v : ℤ) → Allows shared own → own ≢ OpRead → IsMove own (change_by shared k v) k v
is_move OpRead own k v a ne = absurd (ne (sym a))
is_move OpWrite own k v a ne = subst (λ z. IsMove z (Store k v) k v) a refl
is_move OpRw OpRead k v a ne = absurd (ne refl)
is_move OpRw OpWrite k v a ne = refl
is_move OpRw OpRw k v a ne = refl
is_move OpRw (OpReduce r) k v a ne = absurd a
is_move (OpReduce r) own k v a ne = subst (λ z. IsMove z (Merge r k v) k v) a refl

swap_apart : (p q : Access) (k j : ℕ) (v w : ℤ) → k ≢ j → MaySwap (change_by p k v) (change_by q j w)
swap_apart OpRead OpRead k j v w ne = ne
swap_apart OpRead OpWrite k j v w ne = ne
swap_apart OpRead OpRw k j v w ne = ne
swap_apart OpRead (OpReduce s) k j v w ne = ne
swap_apart OpWrite OpRead k j v w ne = ne
swap_apart OpWrite OpWrite k j v w ne = ne
swap_apart OpWrite OpRw k j v w ne = ne
swap_apart OpWrite (OpReduce s) k j v w ne = ne
swap_apart OpRw OpRead k j v w ne = ne
swap_apart OpRw OpWrite k j v w ne = ne
swap_apart OpRw OpRw k j v w ne = ne
swap_apart OpRw (OpReduce s) k j v w ne = ne
swap_apart (OpReduce r) OpRead k j v w ne = ne
swap_apart (OpReduce r) OpWrite k j v w ne = ne
swap_apart (OpReduce r) OpRw k j v w ne = ne
swap_apart (OpReduce r) (OpReduce s) k j v w ne = inl ne

swap_alike : (p q : Access) (k j : ℕ) (v w : ℤ) → p ≡ q → (p ≢ OpRead) × (p ≢ OpWrite) × (p ≢ OpRw) → MaySwap (change_by p k v) (change_by q j w)
swap_alike OpRead q k j v w e none = absurd (none.0 refl)
swap_alike OpWrite q k j v w e none = absurd (none.1 refl)
swap_alike OpRw q k j v w e none = absurd (none.2 refl)
swap_alike (OpReduce r) q k j v w e none =
    subst (λ z. MaySwap (Merge r k v) (change_by z j w)) e (inr refl)

abbrev pub scalar_access : Scalar → Access
scalar_access (Value at) = OpRead
scalar_access (Amount at slot how) = OpReduce (operation how)

scalar_allows : (x : Scalar) (own : Access) → AllowsScalar x own → Allows (scalar_access x) own
scalar_allows (Value at) own a = sym a
scalar_allows (Amount at slot how) own a = sym a

scalar_changes : (x : Scalar) → scalar_access x ≢ OpRead → AllowsScalar x OpRead → ⊥
scalar_changes (Value at) ne a = ne refl
scalar_changes (Amount at slot how) ne a = let h : OpRead ≡ OpReduce (operation how) = a in cc

module _ (y : RowLoop) (m : List ℤ) (modes : List Mode) (stand : ℕ → List Place) (batch : List ℕ) (numbers : List (List ℕ))
    (frame : List (List ℤ)) (h : IsSetOut y m modes stand batch numbers frame) (after : List (List ℤ)) where
  abbrev n_of : ℕ
  n_of = length y.columns.now

  -- ---- columns and scalars alike

  abbrev pub acc : ℕ → Access
  acc c = cond (nat_lt c n_of) (column_access y c) (scalar_access (scalar_at y (c - n_of)))

  abbrev pub mem : (l c : ℕ) → ℕ
  mem l c = cond (nat_lt c n_of) (column_cell y (slice_index batch l) c) (length m + (c - n_of))

  pub acc_column : (c : ℕ) → c < n_of → acc c ≡ column_access y c
  acc_column c lt = ap (λ b. cond b (column_access y c) (scalar_access (scalar_at y (c - n_of)))) (lt-ltb c n_of lt)

  acc_scalar : (c : ℕ) → n_of ≤ c → acc c ≡ scalar_access (scalar_at y (c - n_of))
  acc_scalar c le = ap (λ b. cond b (column_access y c) (scalar_access (scalar_at y (c - n_of)))) (le-ltb c n_of le)

  pub mem_column : (l c : ℕ) → c < n_of → mem l c ≡ column_cell y (slice_index batch l) c
  mem_column l c lt = ap (λ b. cond b (column_cell y (slice_index batch l) c) (length m + (c - n_of))) (lt-ltb c n_of lt)

  mem_scalar : (l c : ℕ) → n_of ≤ c → mem l c ≡ length m + (c - n_of)
  mem_scalar l c le = ap (λ b. cond b (column_cell y (slice_index batch l) c) (length m + (c - n_of))) (le-ltb c n_of le)

  abbrev pub move : (c l : ℕ) → Change
  move c l = change_by (acc c) (mem l c) (at_row l (get_or after c []))

  -- ---- arguments

  total_few : (l a i : ℕ) → Stands y m modes stand batch numbers frame h l a i → fcol y m modes stand batch numbers frame h a i < width y
  total_few l a i (inl d) = omega (arith, d.few)
  total_few l a i (inr v) = omega (arith, v.few, v.column)

  total_allows : (l a i : ℕ) → Stands y m modes stand batch numbers frame h l a i → Allows (acc (fcol y m modes stand batch numbers frame h a i)) (access modes a)
  total_allows l a i (inl d) = subst (λ z. Allows z (access modes a)) (sym (acc_column (fcol y m modes stand batch numbers frame h a i) d.few)) d.allows
  total_allows l a i (inr v) =
      let c = fcol y m modes stand batch numbers frame h a i in
      let e : v.number ≡ c - n_of = omega (arith, v.column) in
      subst (λ z. Allows z (access modes a)) (sym (acc_scalar c (omega (arith, v.column))))
      (subst (λ j. Allows (scalar_access (scalar_at y j)) (access modes a)) e (scalar_allows (scalar_at y v.number) (access modes a) v.allows))

  total_cell : (l a i : ℕ) → Stands y m modes stand batch numbers frame h l a i → mem l (fcol y m modes stand batch numbers frame h a i) ≡ mcell y m modes stand batch numbers frame h l a i
  total_cell l a i (inl d) = mem_column l (fcol y m modes stand batch numbers frame h a i) d.few ∙ sym d.cell
  total_cell l a i (inr v) =
      let c = fcol y m modes stand batch numbers frame h a i in
      let e : length m + v.number ≡ length m + (c - n_of) = omega (arith, v.column) in
      mem_scalar l c (omega (arith, v.column)) ∙ sym e ∙ sym v.cell

  -- what may be modified is an argument's that may modify it
  total_modified : (c : ℕ) → c < width y → acc c ≢ OpRead → IsModified y (length m) modes stand batch c
  total_modified c lt changes = ⊎_elim
      (λ (less : c < n_of). h.runs.columns c less (subst (λ z. z ≢ OpRead) (acc_column c less) changes))
      (λ (le : n_of ≤ c).
      let e : n_of + (c - n_of) ≡ c = omega arith in
      subst (IsModified y (length m) modes stand batch) e
      (h.runs.amounts (c - n_of) (omega (arith, lt, le)) (scalar_changes (scalar_at y (c - n_of)) (subst (λ z. z ≢ OpRead) (acc_scalar c le) changes))))
      (cases_lt c n_of)

  inside : (l c : ℕ) → l < h.rows → c < n_of → mem l c < length m
  inside l c l_lt c_lt = omega (arith, (h.leads l l_lt).inside c c_lt, mem_column l c c_lt)

  -- two of them, of which the first may be modified, have different cells in a row
  total_apart : (c d l : ℕ) → l < h.rows → c ≢ d → acc c ≢ OpRead → mem l c ≢ mem l d
  total_apart c d l l_lt ne changes same = both (cases_lt c n_of) (cases_lt d n_of)
    where
      both : (c < n_of) ⊎ (n_of ≤ c) → (d < n_of) ⊎ (n_of ≤ d) → ⊥
      both (inl c_lt) (inl d_lt) =
          in_row y m modes stand batch numbers frame h c d l c_lt d_lt ne (subst (λ z. z ≢ OpRead) (acc_column c c_lt) changes) l_lt
          (sym (mem_column l c c_lt) ∙ same ∙ mem_column l d d_lt)
      both (inl c_lt) (inr d_le) = omega (arith, inside l c l_lt c_lt, mem_scalar l d d_le, same)
      both (inr c_le) (inl d_lt) = omega (arith, inside l d l_lt d_lt, mem_scalar l c c_le, same)
      both (inr c_le) (inr d_le) = ne (omega (arith, mem_scalar l c c_le, mem_scalar l d d_le, same, c_le, d_le))

  -- changes of two columns in two rows may come in either order
  column_swap : (c d k l : ℕ) → c < n_of → d < n_of → c ≢ d → acc c ≢ OpRead → k < h.rows → l < h.rows → MaySwap (move c k) (move d l)
  column_swap c d k l c_lt d_lt ne changes k_lt l_lt = ⊎_elim
      (λ (never : NeverMeet y (length m) modes stand batch h.rows c d).
      swap_apart (acc c) (acc d) (mem k c) (mem l d) (at_row k (get_or after c [])) (at_row l (get_or after d []))
      (λ same. never k l k_lt l_lt (sym (mem_column k c c_lt) ∙ same ∙ mem_column l d d_lt)))
      (λ (r : ReduceApart y c d).
      swap_alike (acc c) (acc d) (mem k c) (mem l d) (at_row k (get_or after c [])) (at_row l (get_or after d []))
      (acc_column c c_lt ∙ r.access ∙ sym (acc_column d d_lt))
      (subst (λ z. (z ≢ OpRead) × (z ≢ OpWrite) × (z ≢ OpRw)) (sym (acc_column c c_lt)) r.reduces))
      (h.runs.apart c d c_lt d_lt ne (subst (λ z. z ≢ OpRead) (acc_column c c_lt) changes))

  -- ---- those that are modified, one after another

  abbrev pub is_put : ℕ → Bool
  is_put c = modifies (acc c)

  abbrev pub nth : ℕ → ℕ
  nth k = pick is_put (width y) k

  abbrev pub all_moves : (k l : ℕ) → Change
  all_moves k l = move (nth k) l

  abbrev pub most : ℕ
  most = count is_put (width y)

  abbrev pub inner : ℕ
  inner = count is_put n_of

  nth_of : (k : ℕ) → k < most → (nth k < width y) × (acc (nth k) ≢ OpRead)
  nth_of k lt = let f = picked is_put (width y) k lt in (f.0, not_read (acc (nth k)) f.1)

  each_move : (l k : ℕ) → l < h.rows → k < most → (a : ℕ) × (i : ℕ) × (i < dim modes a)
      × IsMove (access modes a) (all_moves k l) ((target_at (mt y m modes stand batch numbers frame h l) a).from + i)
      (read_arg (ft y m modes stand batch numbers frame h) (row l after ∷ []) a i)
  each_move l k l_lt lt =
      let c = nth k in
      let is = nth_of k lt in
      let f = total_modified c is.0 is.1 in
      let p = stands y m modes stand batch numbers frame h l f.0 f.1 l_lt f.2 in
      let value : at_row l (get_or after c []) ≡ read_arg (ft y m modes stand batch numbers frame h) (row l after ∷ []) f.0 f.1 =
      ap (λ d. at_row l (get_or after d [])) (sym f.4) ∙ sym (in_the_frame y m modes stand batch numbers frame h after l f.0 f.1) in
      let place : mem l c ≡ mcell y m modes stand batch numbers frame h l f.0 f.1 = ap (mem l) (sym f.4) ∙ total_cell l f.0 f.1 p in
      let may : Allows (acc c) (access modes f.0) = subst (λ d. Allows (acc d) (access modes f.0)) f.4 (total_allows l f.0 f.1 p) in (
        f.0,
        f.1,
        f.2,
        subst (λ v. IsMove (access modes f.0) (all_moves k l) (mcell y m modes stand batch numbers frame h l f.0 f.1) v) value
            (subst (λ j. IsMove (access modes f.0) (all_moves k l) j (at_row l (get_or after c []))) place
            (is_move (acc c) (access modes f.0) (mem l c) (at_row l (get_or after c [])) may f.3)),
      )

  find_move : (l a i : ℕ) → l < h.rows → i < dim modes a → access modes a ≢ OpRead → (k : ℕ) × (k < most)
      × (cell_of (all_moves k l) ≡ (target_at (mt y m modes stand batch numbers frame h l) a).from + i)
  find_move l a i l_lt i_lt changes =
      let p = stands y m modes stand batch numbers frame h l a i l_lt i_lt in
      let c = fcol y m modes stand batch numbers frame h a i in
      let few = total_few l a i p in
      let put : is_put c ≡ true = modified (acc c) (changing (acc c) (access modes a) (total_allows l a i p) changes) in (
        count is_put c,
        below is_put (width y) c few put,
        ap (λ d. cell_of (move d l)) (pick_of is_put (width y) c few put)
            ∙ its_cell (acc c) (mem l c) (at_row l (get_or after c []))
            ∙ total_cell l a i p,
      )

  moves_apart : (l k j : ℕ) → l < h.rows → k < most → j < most → k ≢ j → cell_of (all_moves k l) ≢ cell_of (all_moves j l)
  moves_apart l k j l_lt k_lt j_lt ne same =
      total_apart (nth k) (nth j) l l_lt (differ is_put (width y) k j k_lt j_lt ne) (nth_of k k_lt).1
      (sym (its_cell (acc (nth k)) (mem l (nth k)) (at_row l (get_or after (nth k) []))) ∙ same ∙ its_cell (acc (nth j)) (mem l (nth j)) (at_row l (get_or after (nth j) [])))

  pub are_moves : (l : ℕ) → l < h.rows → AreMoves modes (ft y m modes stand batch numbers frame h) (mt y m modes stand batch numbers frame h l) (row l after) (λ k. all_moves k l) most
  are_moves l l_lt = record {
    counts = λ a. h.runs.counts l a l_lt;
    in_array = λ a. no_array (stand (slice_index batch l)) a;
    each = λ k lt. each_move l k l_lt lt;
    all = λ a i lt changes. find_move l a i l_lt lt changes;
    apart = λ k j k_lt j_lt ne. moves_apart l k j l_lt k_lt j_lt ne;
  }

  pub few_inner : inner ≤ most
  few_inner = more_below is_put n_of (width y) (omega arith)

  inner_column : (k : ℕ) → k < inner → nth k < n_of
  inner_column k lt = first_ones is_put (width y) k n_of (omega arith) lt

  pub are_columns : AreColumns all_moves inner most h.rows (length m)
  are_columns = record {
    few = few_inner;
    inside = λ k l k_lt l_lt. omega (arith, its_cell (acc (nth k)) (mem l (nth k)) (at_row l (get_or after (nth k) [])), inside l (nth k) l_lt (inner_column k k_lt));
    outside = λ k l le lt l_lt.
        let past : n_of ≤ nth k = later_ones is_put (width y) k n_of lt le in
        omega (arith, its_cell (acc (nth k)) (mem l (nth k)) (at_row l (get_or after (nth k) [])), mem_scalar l (nth k) past);
    swap = λ i j k l i_lt j_lt ne k_lt l_lt other.
        let i_most : i < most = omega (arith, i_lt, few_inner) in
        let j_most : j < most = omega (arith, j_lt, few_inner) in
        column_swap (nth i) (nth j) k l (inner_column i i_lt) (inner_column j j_lt) (differ is_put (width y) i j i_most j_most ne) (nth_of i i_most).1 k_lt l_lt;
  }
