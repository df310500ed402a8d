-- Amounts that were merged into partials, by slot.
use Rattle.std.proofs.Common.{◌≡◌, ℕ, zero, suc, ℤ, pos, ◌+◌, ◌<◌, ◌≤◌, Bool, true, false, refl, sym, ap, ◌∙◌, arith, ⊎_elim, Some, List, [], ◌∷◌, ◌++◌, length, drop, get_or, set, get_or-set_same, get_or-set_other, length-set, append_assoc, append-nil}
use Rattle.std.proofs.lemmas.Bool.{cases_Bool, false≢true, false_from_ne_true, or_cases, or_parts, or_left, or_right, cond-true, cond-false, eqb-true}
use Rattle.std.proofs.lemmas.List.{drop-drop}
use Rattle.op_num.specs.Reduction.{merged}
use Rattle.schedule_model.specs.Cells.{Cell, Variable, DatCell, VarCell, same_cell}
use Rattle.schedule_model.specs.Tests.{same_cell_refl, same_cell_true}
use Rattle.schedule_model.specs.Setup.{Setup}
use Rattle.schedule_model.specs.Machine.{merge_at}
use Rattle.schedule_model.specs.Layout.{Layout, lookup, among}
use Rattle.schedule_model.specs.Scatter.{Once}
use Rattle.rank_state.specs.declared.spans.Span.{Span}
use Rattle.rank_state.specs.declared.scalars.Scalar.{Scalar}
use Rattle.rank_state.specs.declared.scalars.Scalar.TheVariants.{Value, Amount}
use Rattle.rank_state.specs.Spans.{total}
use Rattle.rank_state.specs.Windows.{cells_from, span_cells, operation, index, scalar_cells, amount, amounts, is_slot, has_slot}
use Rattle.rank_state.specs.Shows.{Tables, IsScalar, AreScalars}

pub amount_length : (x : Scalar) (w : ℤ) (ps : List ℤ) → length (amount x w ps) ≡ length ps
amount_length (Value at) w ps = refl
amount_length (Amount at slot how) w ps = length-set ps slot (merged (operation how) (get_or ps slot (pos 0)) w)

pub amounts_length : (xs : List Scalar) (ws ps : List ℤ) → length (amounts xs ws ps) ≡ length ps
amounts_length [] ws ps = refl
amounts_length (x ∷ xs) [] ps = refl
amounts_length (x ∷ xs) (w ∷ ws) ps = amounts_length xs ws (amount x w ps) ∙ amount_length x w ps

amount_other : (i : ℕ) (x : Scalar) (w : ℤ) (ps : List ℤ) → is_slot i x ≡ false → get_or (amount x w ps) i (pos 0) ≡ get_or ps i (pos 0)
amount_other i (Value at) w ps h = refl
amount_other i (Amount at slot how) w ps h =
    get_or-set_other ps slot i (merged (operation how) (get_or ps slot (pos 0)) w) (pos 0) (λ e. false≢true (sym h ∙ Rattle.std.proofs.lemmas.Bool.eq-eqb i slot e))

-- a slot that no scalar has
pub amounts_other : (i : ℕ) (xs : List Scalar) (ws ps : List ℤ) → has_slot i xs ≡ false → get_or (amounts xs ws ps) i (pos 0) ≡ get_or ps i (pos 0)
amounts_other i [] ws ps h = refl
amounts_other i (x ∷ xs) [] ps h = refl
amounts_other i (x ∷ xs) (w ∷ ws) ps h =
    let e : (is_slot i x ≡ false) × (has_slot i xs ≡ false) = or_parts (is_slot i x) (has_slot i xs) h in
    amounts_other i xs ws (amount x w ps) e.1 ∙ amount_other i x w ps e.0

module _ {F : Type 0} (p : Setup F) (l : Layout F) (t : Tables) (k : ℕ) where
  pub cell_is : (i : ℕ) (x : Scalar) → IsScalar p l t k x → is_slot i x ≡ true → t.reduced_at i ≡ l.variable_at (index x)
  cell_is i (Value at) h e = absurd (false≢true e)
  cell_is i (Amount at slot how) h e = ap t.reduced_at (eqb-true i slot e) ∙ h.4

  pub slot_among : (i : ℕ) (xs : List Scalar) → AreScalars p l t k xs → has_slot i xs ≡ true → among (scalar_cells l.variable_at xs) (Variable (t.reduced_at i)) ≡ true
  slot_among i [] h e = absurd (false≢true e)
  slot_among i (x ∷ xs) h e = ⊎_elim
      (λ (y : is_slot i x ≡ true).
      let same : same_cell (Variable (l.variable_at (index x))) (Variable (t.reduced_at i)) ≡ true =
      ap (λ z. same_cell (Variable (l.variable_at (index x))) (Variable z)) (cell_is i x h.0 y)
      ∙ same_cell_refl (Variable (l.variable_at (index x))) in
      or_left (same_cell (Variable (l.variable_at (index x))) (Variable (t.reduced_at i))) (among (scalar_cells l.variable_at xs) (Variable (t.reduced_at i))) same)
      (λ (y : has_slot i xs ≡ true). or_right (same_cell (Variable (l.variable_at (index x))) (Variable (t.reduced_at i)))
      (among (scalar_cells l.variable_at xs) (Variable (t.reduced_at i))) (slot_among i xs h.1 y))
      (or_cases (is_slot i x) (has_slot i xs) e)

  -- a slot is one of the item's loop
  pub slot_site : (i : ℕ) (xs : List Scalar) → AreScalars p l t k xs → has_slot i xs ≡ true → t.site_at i ≡ p.program.site k
  slot_site i [] h e = absurd (false≢true e)
  slot_site i (x ∷ xs) h e = ⊎_elim (λ y. of_one x h.0 y) (λ y. slot_site i xs h.1 y) (or_cases (is_slot i x) (has_slot i xs) e)
    where
      of_one : (x : Scalar) → IsScalar p l t k x → is_slot i x ≡ true → t.site_at i ≡ p.program.site k
      of_one (Value at) g e = absurd (false≢true e)
      of_one (Amount at slot how) g e = ap t.site_at (eqb-true i slot e) ∙ g.3

  -- what one scalar merges into its slot
  amount_here : (i : ℕ) (x : Scalar) (w : ℤ) (ps : List ℤ) → i < length ps → IsScalar p l t k x → is_slot i x ≡ true
      → get_or (amount x w ps) i (pos 0) ≡ merge_at (p.reduces (p.program.site k) (t.reduced_at i)) (get_or ps i (pos 0)) w
  amount_here i (Value at) w ps lt h e = absurd (false≢true e)
  amount_here i (Amount at slot how) w ps lt h e =
      let j : i ≡ slot = eqb-true i slot e in
      let o : p.reduces (p.program.site k) (t.reduced_at i) ≡ Some (operation how) = ap (p.reduces (p.program.site k)) (ap t.reduced_at j ∙ h.4) ∙ h.1 in
      ap (λ z. get_or (set ps slot (merged (operation how) (get_or ps slot (pos 0)) w)) z (pos 0)) j
      ∙ (get_or-set_same ps slot (merged (operation how) (get_or ps slot (pos 0)) w) (pos 0) (omega arith)
      ∙ (ap (λ z. merged (operation how) (get_or ps z (pos 0)) w) (sym j)
      ∙ ap (λ z. merge_at z (get_or ps i (pos 0)) w) (sym o)))

  -- a slot of the loop
  pub amounts_here : (i : ℕ) (xs : List Scalar) (ws ps : List ℤ) → i < length ps → length xs ≤ length ws → AreScalars p l t k xs → Once (scalar_cells l.variable_at xs) → has_slot i xs ≡ true
      → get_or (amounts xs ws ps) i (pos 0) ≡ merge_at (p.reduces (p.program.site k) (t.reduced_at i)) (get_or ps i (pos 0))
      (lookup (scalar_cells l.variable_at xs) ws (Variable (t.reduced_at i)) (pos 0))
  amounts_here i [] ws ps lt room h once e = absurd (false≢true e)
  amounts_here i (x ∷ xs) [] ps lt room h once e = absurd (omega arith)
  amounts_here i (x ∷ xs) (w ∷ ws) ps lt room h once e = ⊎_elim
      (λ (y : is_slot i x ≡ true).
      let same : same_cell (Variable (l.variable_at (index x))) (Variable (t.reduced_at i)) ≡ true =
      ap (λ z. same_cell (Variable (l.variable_at (index x))) (Variable z)) (cell_is i x h.0 y)
      ∙ same_cell_refl (Variable (l.variable_at (index x))) in
      let rest : has_slot i xs ≡ false = false_from_ne_true (has_slot i xs)
      (λ z. false≢true (sym once.0 ∙ (ap (λ c. among (scalar_cells l.variable_at xs) (Variable c)) (sym (cell_is i x h.0 y))
      ∙ slot_among i xs h.1 z))) in
      amounts_other i xs ws (amount x w ps) rest
      ∙ (amount_here i x w ps lt h.0 y
      ∙ ap (merge_at (p.reduces (p.program.site k) (t.reduced_at i)) (get_or ps i (pos 0)))
      (sym (cond-true (same_cell (Variable (l.variable_at (index x))) (Variable (t.reduced_at i))) w
      (lookup (scalar_cells l.variable_at xs) ws (Variable (t.reduced_at i)) (pos 0)) same))))
      (λ (y : is_slot i x ≡ false).
      let rest : has_slot i xs ≡ true = ⊎_elim (λ z. absurd (false≢true (sym y ∙ z))) (λ z. z) (or_cases (is_slot i x) (has_slot i xs) e) in
      let other : same_cell (Variable (l.variable_at (index x))) (Variable (t.reduced_at i)) ≡ false = false_from_ne_true (same_cell (Variable (l.variable_at (index x))) (Variable (t.reduced_at i)))
      (λ z. false≢true (sym once.0 ∙ (ap (among (scalar_cells l.variable_at xs)) (same_cell_true (Variable (l.variable_at (index x))) (Variable (t.reduced_at i)) z) ∙ slot_among i xs h.1 rest))) in
      amounts_here i xs ws (amount x w ps) (omega (arith, amount_length x w ps)) (omega arith) h.1 once.1 rest
      ∙ (ap (λ z. merge_at (p.reduces (p.program.site k) (t.reduced_at i)) z (lookup (scalar_cells l.variable_at xs) ws (Variable (t.reduced_at i)) (pos 0))) (amount_other i x w ps y)
      ∙ ap (merge_at (p.reduces (p.program.site k) (t.reduced_at i)) (get_or ps i (pos 0)))
      (sym (cond-false (same_cell (Variable (l.variable_at (index x))) (Variable (t.reduced_at i))) w
      (lookup (scalar_cells l.variable_at xs) ws (Variable (t.reduced_at i)) (pos 0)) other))))
      (cases_Bool (is_slot i x))

-- ---- the scalars behind the spans

lookup_behind : (cell_at : ℕ → DatCell) (at n : ℕ) (xs : List Cell) (ws : List ℤ) (v : VarCell) (d : ℤ) → n ≤ length ws
    → lookup (cells_from cell_at at n ++ xs) ws (Variable v) d ≡ lookup xs (drop n ws) (Variable v) d
lookup_behind cell_at at zero xs ws v d h = refl
lookup_behind cell_at at (suc n) xs [] v d h = absurd (omega arith)
lookup_behind cell_at at (suc n) xs (w ∷ ws) v d h = lookup_behind cell_at (suc at) n xs ws v d (omega arith)

pub lookup_scalar : (cell_at : ℕ → DatCell) (ss : List Span) (xs : List Cell) (ws : List ℤ) (v : VarCell) (d : ℤ) → total ss ≤ length ws
    → lookup (span_cells cell_at ss ++ xs) ws (Variable v) d ≡ lookup xs (drop (total ss) ws) (Variable v) d
lookup_scalar cell_at [] xs ws v d h = refl
lookup_scalar cell_at (s ∷ ss) xs ws v d h =
    ap (λ z. lookup z ws (Variable v) d) (append_assoc (cells_from cell_at s.at s.dim) (span_cells cell_at ss) xs)
    ∙ (lookup_behind cell_at s.at s.dim (span_cells cell_at ss ++ xs) ws v d (omega arith)
    ∙ (lookup_scalar cell_at ss xs (drop s.dim ws) v d (omega (arith, Rattle.std.proofs.Common.length-drop s.dim ws))
    ∙ ap (λ z. lookup xs z (Variable v) d) (drop-drop (total ss) s.dim ws)))

pub once_behind : (xs ys : List Cell) → Once (xs ++ ys) → Once ys
once_behind [] ys h = h
once_behind (x ∷ xs) ys h = once_behind xs ys h.1

cells_length : (cell_at : ℕ → DatCell) (at n : ℕ) (xs : List Cell) → length (cells_from cell_at at n ++ xs) ≡ n + length xs
cells_length cell_at at zero xs = omega arith
cells_length cell_at at (suc n) xs = let e : length (cells_from cell_at (suc at) n ++ xs) ≡ n + length xs = cells_length cell_at (suc at) n xs in omega arith

scalars_length : (variable_at : ℕ → VarCell) (xs : List Scalar) → length (scalar_cells variable_at xs) ≡ length xs
scalars_length variable_at [] = refl
scalars_length variable_at (x ∷ xs) = ap suc (scalars_length variable_at xs)

spans_length : (cell_at : ℕ → DatCell) (ss : List Span) (xs : List Cell) → length (span_cells cell_at ss ++ xs) ≡ total ss + length xs
spans_length cell_at [] xs = omega arith
spans_length cell_at (s ∷ ss) xs =
    let e : length (cells_from cell_at s.at s.dim ++ (span_cells cell_at ss ++ xs)) ≡ s.dim + length (span_cells cell_at ss ++ xs) = cells_length cell_at s.at s.dim (span_cells cell_at ss ++ xs) in
    let i : length (span_cells cell_at ss ++ xs) ≡ total ss + length xs = spans_length cell_at ss xs in
    ap length (append_assoc (cells_from cell_at s.at s.dim) (span_cells cell_at ss) xs) ∙ omega arith

-- how many cells an element's windows have
pub windows_length : (cell_at : ℕ → DatCell) (ss : List Span) (variable_at : ℕ → VarCell) (xs : List Scalar) → length (span_cells cell_at ss ++ scalar_cells variable_at xs) ≡ total ss + length xs
windows_length cell_at ss variable_at xs = spans_length cell_at ss (scalar_cells variable_at xs) ∙ ap (λ n. total ss + n) (scalars_length variable_at xs)

pub cells_total : (cell_at : ℕ → DatCell) (ss : List Span) → length (span_cells cell_at ss) ≡ total ss
cells_total cell_at ss = ap length (sym (append-nil (span_cells cell_at ss))) ∙ (spans_length cell_at ss [] ∙ Rattle.std.proofs.Common.add-zero (total ss))
