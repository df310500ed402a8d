-- Spans that are written back are the cells that are written one by one.
use Rattle.std.proofs.Common.{◌≡◌, ℕ, zero, suc, ℤ, ◌+◌, ◌<◌, ◌≤◌, Bool, true, false, cond, ◌⊎◌, inl, inr, refl, sym, ap, subst, ◌∙◌, arith, ⊎_elim, List, [], ◌∷◌, ◌++◌, length, take, drop, set, append_assoc, add-zero}
use Rattle.std.proofs.lemmas.Bool.{false≢true, or_cases}
use Rattle.std.proofs.lemmas.List.{drop-set-lt, take-append-drop, drop-drop}
use Rattle.std.proofs.Math.Seq.{take-suc-set}
use Rattle.schedule_model.specs.Cells.{Cell, Data, DatCell, VarCell, same_cell}
use Rattle.schedule_model.specs.Tests.{same_cell_true}
use Rattle.schedule_model.specs.Layout.{among}
use Rattle.schedule_model.specs.Scatter.{Once, scatter, looked_up, Placed}
use Rattle.rank_state.specs.declared.spans.Span.{Span}
use Rattle.rank_state.specs.declared.scalars.Scalar.{Scalar}
use Rattle.rank_state.specs.Spans.{Within, total, with_window, cells_at, scattered}
use Rattle.rank_state.specs.Windows.{cells_from, span_cells, Marked, scalar_cells}
use Rattle.lemmas.proofs.Lists.{length-set_if}

-- the law that writing cell by cell is looking up by index
abbrev pub LookUp : Type 0
LookUp = (taken : DatCell → Bool) (place : DatCell → ℕ) (cell_at : ℕ → DatCell) (xs : List Cell) (ws buffer : List ℤ)
    → Once xs → Placed taken place cell_at xs (length buffer) → scatter taken place xs ws buffer ≡ looked_up taken cell_at xs ws buffer

-- a window whose first cell was written before
window_more : (at : ℕ) (w : ℤ) (u m : List ℤ) → at < length m → with_window (suc at) u (set m at w) ≡ with_window at (w ∷ u) m
window_more at w u m lt =
    let e : suc at + length u ≡ at + suc (length u) = omega arith in
    ap (λ z. z ++ (u ++ drop (suc at + length u) (set m at w))) (take-suc-set m at w lt)
    ∙ (append_assoc (take at m) (w ∷ []) (u ++ drop (suc at + length u) (set m at w))
    ∙ ap (λ z. take at m ++ (w ∷ (u ++ z))) (drop-set-lt (suc at + length u) m at w (omega arith) ∙ ap (λ n. drop n m) e))

window_none : (at : ℕ) (m : List ℤ) → with_window at [] m ≡ m
window_none at m = ap (λ n. take at m ++ drop n m) (add-zero at) ∙ take-append-drop at m

window_if_more : (b : Bool) (at : ℕ) (w : ℤ) (u m : List ℤ) → at < length m → cond b (with_window (suc at) u (cond b (set m at w) m)) (cond b (set m at w) m) ≡ cond b (with_window at (w ∷ u) m) m
window_if_more true at w u m lt = window_more at w u m lt
window_if_more false at w u m lt = refl

window_if_none : (b : Bool) (at : ℕ) (m : List ℤ) → m ≡ cond b (with_window at [] m) m
window_if_none true at m = sym (window_none at m)
window_if_none false at m = refl

pub window_length : (at : ℕ) (w m : List ℤ) → at + length w ≤ length m → length (with_window at w m) ≡ length m
window_length at w m h = grind (arith, Rattle.std.proofs.lemmas.Grind.common_steps)

window_if_length : (b : Bool) (at k : ℕ) (ws m : List ℤ) → k ≤ length ws → at + k ≤ length m → length (cond b (with_window at (take k ws) m) m) ≡ length m
window_if_length true at k ws m h i = (let e : length (take k ws) ≡ k = Rattle.std.proofs.lemmas.List.length-take-le k ws h in window_length at (take k ws) m (omega arith))
window_if_length false at k ws m h i = refl

-- what is written back has the buffer's length
pub scattered_length : (from : ℕ) (f : List ℤ) (ss : List Span) (m : List ℤ) → Within (length m) ss → from + total ss ≤ length f → length (scattered from f ss m) ≡ length m
scattered_length from f [] m within room = refl
scattered_length from f (s ∷ ss) m within room =
    let e : length (cond s.writes (with_window s.at (cells_at from s.dim f) m) m) ≡ length m =
    window_if_length s.writes s.at s.dim (drop from f) m (omega (arith, Rattle.std.proofs.Common.length-drop from f)) within.0 in
    scattered_length (from + s.dim) f ss (cond s.writes (with_window s.at (cells_at from s.dim f) m) m) (subst (λ n. Within n ss) (sym e) within.1) (omega arith) ∙ e

module _ (taken : DatCell → Bool) (place : DatCell → ℕ) (cell_at : ℕ → DatCell) (n : ℕ) (placed : (i : ℕ) → i < n → place (cell_at i) ≡ i) where
  pub span_scatter : (at k : ℕ) (b : Bool) (xs : List Cell) (ws m : List ℤ) → length m ≡ n → at + k ≤ n → k ≤ length ws → ((j : ℕ) → j < k → taken (cell_at (at + j)) ≡ b)
      → scatter taken place (cells_from cell_at at k ++ xs) ws m ≡ scatter taken place xs (drop k ws) (cond b (with_window at (take k ws) m) m)
  span_scatter at zero b xs ws m len fit room h = ap (scatter taken place xs ws) (window_if_none b at m)
  span_scatter at (suc k) b xs [] m len fit room h = absurd (omega arith)
  span_scatter at (suc k) b xs (w ∷ ws) m len fit room h =
      let here : taken (cell_at at) ≡ b = (let e : at + 0 ≡ at = omega arith in subst (λ j. taken (cell_at j) ≡ b) e (h 0 (omega arith))) in
      ap (λ i. scatter taken place (cells_from cell_at (suc at) k ++ xs) ws (cond (taken (cell_at at)) (set m i w) m)) (placed at (omega arith))
      ∙ (ap (λ z. scatter taken place (cells_from cell_at (suc at) k ++ xs) ws (cond z (set m at w) m)) here
      ∙ (span_scatter (suc at) k b xs ws (cond b (set m at w) m) (length-set_if b m at w ∙ len) (omega arith) (omega arith)
      (λ j lt. (let e : at + suc j ≡ suc at + j = omega arith in subst (λ i. taken (cell_at i) ≡ b) e (h (suc j) (omega arith))))
      ∙ ap (scatter taken place xs (drop k ws)) (window_if_more b at w (take k ws) m (omega arith))))

  scalar_scatter : (variable_at : ℕ → VarCell) (xs : List Scalar) (ws m : List ℤ) → scatter taken place (scalar_cells variable_at xs) ws m ≡ m
  scalar_scatter variable_at [] ws m = refl
  scalar_scatter variable_at (x ∷ xs) [] m = refl
  scalar_scatter variable_at (x ∷ xs) (w ∷ ws) m = scalar_scatter variable_at xs ws m

  spans_scatter : (from : ℕ) (f : List ℤ) (ss : List Span) (xs : List Cell) (m : List ℤ) → length m ≡ n → Within n ss → from + total ss ≤ length f → Marked (λ i. taken (cell_at i)) ss
      → scatter taken place (span_cells cell_at ss ++ xs) (drop from f) m ≡ scatter taken place xs (drop (from + total ss) f) (scattered from f ss m)
  spans_scatter from f [] xs m len within room marked = ap (λ i. scatter taken place xs (drop i f) m) (sym (add-zero from))
  spans_scatter from f (s ∷ ss) xs m len within room marked =
      let left : s.dim ≤ length (drop from f) = omega (arith, Rattle.std.proofs.Common.length-drop from f) in
      ap (λ z. scatter taken place z (drop from f) m) (append_assoc (cells_from cell_at s.at s.dim) (span_cells cell_at ss) xs)
      ∙ (span_scatter s.at s.dim s.writes (span_cells cell_at ss ++ xs) (drop from f) m len within.0 left marked.0
      ∙ (ap (λ z. scatter taken place (span_cells cell_at ss ++ xs) z (cond s.writes (with_window s.at (cells_at from s.dim f) m) m)) (drop-drop s.dim from f)
      ∙ (spans_scatter (from + s.dim) f ss xs (cond s.writes (with_window s.at (cells_at from s.dim f) m) m)
      (window_if_length s.writes s.at s.dim (drop from f) m left (omega (arith, within.0)) ∙ len) within.1 (omega arith) marked.1
      ∙ (let e : from + s.dim + total ss ≡ from + (s.dim + total ss) = omega arith in
      ap (λ i. scatter taken place xs (drop i f)
      (scattered (from + s.dim) f ss (cond s.writes (with_window s.at (cells_at from s.dim f) m) m))) e))))

  -- a cell among spans stands at an index
  abbrev AtSome : DatCell → Type 0
  AtSome c = (i : ℕ) × (i < n) × (c ≡ cell_at i)

  among_from : (at k : ℕ) (xs : List Cell) (c : DatCell) → at + k ≤ n → among (cells_from cell_at at k ++ xs) (Data c) ≡ true → AtSome c ⊎ (among xs (Data c) ≡ true)
  among_from at zero xs c fit h = inr h
  among_from at (suc k) xs c fit h = ⊎_elim
      (λ (e : same_cell (Data (cell_at at)) (Data c) ≡ true). inl (
        at,
        omega arith,
        (let i : Data (cell_at at) ≡ Data c = same_cell_true (Data (cell_at at)) (Data c) e in let j : cell_at at ≡ c =
            cc in sym j),
      ))
      (λ (e : among (cells_from cell_at (suc at) k ++ xs) (Data c) ≡ true). among_from (suc at) k xs c (omega arith) e)
      (or_cases (same_cell (Data (cell_at at)) (Data c)) (among (cells_from cell_at (suc at) k ++ xs) (Data c)) h)

  among_spans : (ss : List Span) (xs : List Cell) (c : DatCell) → Within n ss → among (span_cells cell_at ss ++ xs) (Data c) ≡ true → AtSome c ⊎ (among xs (Data c) ≡ true)
  among_spans [] xs c within h = inr h
  among_spans (s ∷ ss) xs c within h = ⊎_elim (λ i. inl i) (λ i. among_spans ss xs c within.1 i)
      (among_from s.at s.dim (span_cells cell_at ss ++ xs) c within.0 (subst (λ z. among z (Data c) ≡ true) (append_assoc (cells_from cell_at s.at s.dim) (span_cells cell_at ss) xs) h))

  among_scalars : (variable_at : ℕ → VarCell) (xs : List Scalar) (c : DatCell) → among (scalar_cells variable_at xs) (Data c) ≡ true → ⊥
  among_scalars variable_at [] c h = false≢true h
  among_scalars variable_at (x ∷ xs) c h = among_scalars variable_at xs c h

  -- each cell of the windows has its place
  windows_placed : (ss : List Span) (variable_at : ℕ → VarCell) (xs : List Scalar) → Within n ss → Placed taken place cell_at (span_cells cell_at ss ++ scalar_cells variable_at xs) n
  windows_placed ss variable_at xs within = record {
    inside = λ c a t. ⊎_elim
        (λ (i : AtSome c). at_place c i)
        (λ i. absurd (among_scalars variable_at xs c i))
        (among_spans ss (scalar_cells variable_at xs) c within a);
    one_cell = placed;
  }
    where
      at_place : (c : DatCell) → AtSome c → (place c < n) × (cell_at (place c) ≡ c)
      at_place c i = let e : place c ≡ i.0 = ap place i.2 ∙ placed i.0 i.1 in (let lt : i.0 < n = i.1 in omega arith, ap cell_at e ∙ sym i.2)

  -- what is copied back by spans is looked up by index
  pub copied_back : LookUp → (ss : List Span) (variable_at : ℕ → VarCell) (xs : List Scalar) (cells : List Cell) (ws m : List ℤ)
      → cells ≡ span_cells cell_at ss ++ scalar_cells variable_at xs → Once cells
      → length m ≡ n → Within n ss → total ss ≤ length ws → Marked (λ i. taken (cell_at i)) ss → scattered 0 ws ss m ≡ looked_up taken cell_at cells ws m
  copied_back law ss variable_at xs cells ws m e once len within room marked =
      let both : scatter taken place (span_cells cell_at ss ++ scalar_cells variable_at xs) ws m ≡ scattered 0 ws ss m =
      spans_scatter 0 ws ss (scalar_cells variable_at xs) m len within (omega arith) marked ∙ scalar_scatter variable_at xs (drop (0 + total ss) ws) (scattered 0 ws ss m) in
      let look : scatter taken place (span_cells cell_at ss ++ scalar_cells variable_at xs) ws m ≡ looked_up taken cell_at (span_cells cell_at ss ++ scalar_cells variable_at xs) ws m =
      law taken place cell_at (span_cells cell_at ss ++ scalar_cells variable_at xs) ws m (subst Once e once)
      (subst (Placed taken place cell_at (span_cells cell_at ss ++ scalar_cells variable_at xs)) (sym len)
      (windows_placed ss variable_at xs within)) in
      sym both ∙ (look ∙ ap (λ z. looked_up taken cell_at z ws m) (sym e))
