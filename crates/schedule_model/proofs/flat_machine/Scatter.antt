-- Writing values cell by cell is looking them up by index.
use Rattle.std.proofs.Common.{◌≡◌, ℕ, ℤ, pos, ◌<◌, Bool, true, false, cond, refl, sym, ap, subst, ◌∙◌, ⊎_elim, List, [], ◌∷◌, length, get_or, set, get_or-set_same, get_or-set_other}
use Rattle.std.proofs.lemmas.Bool.{cases_Bool, false≢true, or_parts, or_left, or_right, cond-true, cond-false}
use Rattle.std.proofs.lemmas.List.{ext_get_or}
use Rattle.schedule_model.specs.Cells.{Cell, Data, Variable, DatCell, same_cell}
use Rattle.schedule_model.specs.Tests.{same_cell_refl, same_cell_true}
use Rattle.schedule_model.specs.Layout.{lookup, among}
use Rattle.schedule_model.specs.Scatter.{Once, scatter, looked_up, Placed}
use Rattle.schedule_model.proofs.flat_machine.Rows.{updated_at, updated_length}
use Rattle.lemmas.proofs.Lists.{length-set_if}

-- a cell that isn't among them
lookup_none : (xs : List Cell) (ws : List ℤ) (c : Cell) (d : ℤ) → among xs c ≡ false → lookup xs ws c d ≡ d
lookup_none [] ws c d h = refl
lookup_none (x ∷ xs) [] c d h = refl
lookup_none (x ∷ xs) (w ∷ ws) c d h =
    let a : (same_cell x c ≡ false) × (among xs c ≡ false) = or_parts (same_cell x c) (among xs c) h in
    cond-false (same_cell x c) w (lookup xs ws c d) a.0 ∙ lookup_none xs ws c d a.1

cond_same : (b : Bool) (v : ℤ) → cond b v v ≡ v
cond_same true v = refl
cond_same false v = refl

module _ (taken : DatCell → Bool) (place : DatCell → ℕ) (cell_at : ℕ → DatCell) where
  scatter_length : (xs : List Cell) (ws buffer : List ℤ) → length (scatter taken place xs ws buffer) ≡ length buffer
  scatter_length [] ws buffer = refl
  scatter_length (x ∷ xs) [] buffer = refl
  scatter_length (Data c ∷ xs) (w ∷ ws) buffer = scatter_length xs ws (cond (taken c) (set buffer (place c) w) buffer) ∙ length-set_if (taken c) buffer (place c) w
  scatter_length (Variable v ∷ xs) (w ∷ ws) buffer = scatter_length xs ws buffer

  -- what an index has after one cell was written
  abbrev after : DatCell → ℤ → List ℤ → ℕ → ℤ
  after c w buffer i = get_or (cond (taken c) (set buffer (place c) w) buffer) i (pos 0)

  written_here : (c : DatCell) (w : ℤ) (buffer : List ℤ) (i : ℕ) → i < length buffer → place c ≡ i → taken c ≡ true → after c w buffer i ≡ w
  written_here c w buffer i lt e t =
      ap (λ z. get_or z i (pos 0)) (cond-true (taken c) (set buffer (place c) w) buffer t)
      ∙ (ap (λ z. get_or (set buffer z w) i (pos 0)) e ∙ get_or-set_same buffer i w (pos 0) lt)

  written_else : (c : DatCell) (w : ℤ) (buffer : List ℤ) (i : ℕ) → (taken c ≡ true → i ≡ place c → ⊥) → after c w buffer i ≡ get_or buffer i (pos 0)
  written_else c w buffer i ne = ⊎_elim
      (λ (t : taken c ≡ true). ap (λ z. get_or z i (pos 0)) (cond-true (taken c) (set buffer (place c) w) buffer t) ∙ get_or-set_other buffer (place c) i w (pos 0) (ne t))
      (λ (t : taken c ≡ false). ap (λ z. get_or z i (pos 0)) (cond-false (taken c) (set buffer (place c) w) buffer t))
      (cases_Bool (taken c))

  -- the index's value, by its cell
  abbrev found : List Cell → List ℤ → ℕ → ℤ → ℤ
  found xs ws i v = cond (taken (cell_at i)) (lookup xs ws (Data (cell_at i)) v) v

  -- one cell more in front
  one_more : (c : DatCell) (xs : List Cell) (w : ℤ) (ws : List ℤ) (buffer : List ℤ) (i : ℕ) → among xs (Data c) ≡ false → Placed taken place cell_at (Data c ∷ xs) (length buffer) → i < length buffer
      → found xs ws i (after c w buffer i) ≡ found (Data c ∷ xs) (w ∷ ws) i (get_or buffer i (pos 0))
  one_more c xs w ws buffer i once h lt = ⊎_elim
      (λ (y : same_cell (Data c) (Data (cell_at i)) ≡ true).
      let e : c ≡ cell_at i = (let j : Data c ≡ Data (cell_at i) = same_cell_true (Data c) (Data (cell_at i)) y in cc) in
      ⊎_elim
      (λ (t : taken (cell_at i) ≡ true).
      cond-true (taken (cell_at i)) (lookup xs ws (Data (cell_at i)) (after c w buffer i)) (after c w buffer i) t
      ∙ (lookup_none xs ws (Data (cell_at i)) (after c w buffer i) (ap (λ z. among xs (Data z)) (sym e) ∙ once)
      ∙ (written_here c w buffer i lt (ap place e ∙ h.one_cell i lt) (ap taken e ∙ t)
      ∙ (sym (cond-true (same_cell (Data c) (Data (cell_at i))) w (lookup xs ws (Data (cell_at i)) (get_or buffer i (pos 0))) y)
      ∙ sym (cond-true (taken (cell_at i)) (lookup (Data c ∷ xs) (w ∷ ws) (Data (cell_at i)) (get_or buffer i (pos 0))) (get_or buffer i (pos 0)) t)))))
      (λ (t : taken (cell_at i) ≡ false).
      cond-false (taken (cell_at i)) (lookup xs ws (Data (cell_at i)) (after c w buffer i)) (after c w buffer i) t
      ∙ (written_else c w buffer i (λ u z. false≢true (sym t ∙ (ap taken (sym e) ∙ u)))
      ∙ sym (cond-false (taken (cell_at i)) (lookup (Data c ∷ xs) (w ∷ ws) (Data (cell_at i)) (get_or buffer i (pos 0))) (get_or buffer i (pos 0)) t)))
      (cases_Bool (taken (cell_at i))))
      (λ (y : same_cell (Data c) (Data (cell_at i)) ≡ false).
      ap (found xs ws i) (written_else c w buffer i (λ t z. false≢true (sym y ∙ subst (λ u. same_cell (Data c) (Data u) ≡ true)
      (sym (h.inside c (or_left (same_cell (Data c) (Data c)) (among xs (Data c)) (same_cell_refl (Data c))) t).1 ∙ ap cell_at (sym z)) (same_cell_refl (Data c)))))
      ∙ ap (λ z. cond (taken (cell_at i)) z (get_or buffer i (pos 0))) (sym (cond-false (same_cell (Data c) (Data (cell_at i))) w (lookup xs ws (Data (cell_at i)) (get_or buffer i (pos 0))) y)))
      (cases_Bool (same_cell (Data c) (Data (cell_at i))))

  fewer : (x : Cell) (xs : List Cell) (n : ℕ) → Placed taken place cell_at (x ∷ xs) n → Placed taken place cell_at xs n
  fewer x xs n h = record { inside = λ c i t. h.inside c (or_right (same_cell x (Data c)) (among xs (Data c)) i) t; one_cell = h.one_cell }

  at : (xs : List Cell) (ws buffer : List ℤ) → Once xs → Placed taken place cell_at xs (length buffer) → (i : ℕ) → i < length buffer
      → get_or (scatter taken place xs ws buffer) i (pos 0) ≡ found xs ws i (get_or buffer i (pos 0))
  at [] ws buffer once h i lt = sym (cond_same (taken (cell_at i)) (get_or buffer i (pos 0)))
  at (x ∷ xs) [] buffer once h i lt = sym (cond_same (taken (cell_at i)) (get_or buffer i (pos 0)))
  at (Data c ∷ xs) (w ∷ ws) buffer once h i lt =
      let size : length (cond (taken c) (set buffer (place c) w) buffer) ≡ length buffer = length-set_if (taken c) buffer (place c) w in
      at xs ws (cond (taken c) (set buffer (place c) w) buffer) once.1 (subst (Placed taken place cell_at xs) (sym size) (fewer (Data c) xs (length buffer) h)) i (subst (λ z. i < z) (sym size) lt)
      ∙ one_more c xs w ws buffer i once.0 h lt
  at (Variable v ∷ xs) (w ∷ ws) buffer once h i lt = at xs ws buffer once.1 (fewer (Variable v) xs (length buffer) h) i lt

  pub scattered : (xs : List Cell) (ws buffer : List ℤ) → Once xs → Placed taken place cell_at xs (length buffer) → scatter taken place xs ws buffer ≡ looked_up taken cell_at xs ws buffer
  scattered xs ws buffer once h = ext_get_or (pos 0) (scatter taken place xs ws buffer) (looked_up taken cell_at xs ws buffer)
      (scatter_length xs ws buffer ∙ sym (updated_length (λ i v. cond (taken (cell_at i)) (lookup xs ws (Data (cell_at i)) v) v) 0 buffer))
      (λ i lt.
      let l : i < length buffer = subst (λ z. i < z) (scatter_length xs ws buffer) lt in
      at xs ws buffer once h i l ∙ sym (updated_at (λ i v. cond (taken (cell_at i)) (lookup xs ws (Data (cell_at i)) v) v) buffer i (pos 0) l))
