-- One element of an Ordered loop on the lists is one of the flat machine.
use Rattle.std.proofs.Common.{◌≡◌, ℕ, zero, suc, ℤ, ◌+◌, ◌<◌, ◌≤◌, Bool, true, false, cond, ◌⊎◌, inl, inr, refl, sym, ap, subst, ◌∙◌, arith, ⊎_elim, List, [], ◌∷◌, ◌++◌, length, drop, get_or, set, get_or-set_same, get_or-set_other, length-set, length-drop, append_assoc, add-zero}
use Rattle.std.specs.Prelude.{◌==◌}
use Rattle.std.proofs.lemmas.Bool.{cases_eq, false≢true, or_cases, eq-eqb, ne_eqb, eqb-true}
use Rattle.std.proofs.lemmas.List.{drop-drop}
use Rattle.schedule_model.specs.Cells.{Cell, Data, DatCell, VarCell, same_cell}
use Rattle.schedule_model.specs.Tests.{same_cell_true}
use Rattle.schedule_model.specs.Setup.{Setup, owner_of}
use Rattle.schedule_model.specs.Layout.{Layout, among}
use Rattle.schedule_model.specs.Scatter.{Once, scatter, looked_up, Placed}
use Rattle.rank_state.specs.declared.owned.Owned.{Owned}
use Rattle.rank_state.specs.Spans.{with_window, cells_at}
use Rattle.rank_state.specs.Windows.{cells_from}
use Rattle.rank_state.specs.Shows.{Tables, Indexed}
use Rattle.rank_state.specs.Ordered.{total_all, scattered_all, index_cells, owned_cells, OwnedBy}
use Rattle.rank_state.proofs.Scatters.{LookUp, span_scatter, window_length}

module _ (taken : DatCell → Bool) (place : DatCell → ℕ) where
  -- cells that aren't taken change nothing
  skip_scatter : (cell_at : ℕ → DatCell) (at k : ℕ) (xs : List Cell) (ws m : List ℤ) → k ≤ length ws
      → ((j : ℕ) → j < k → taken (cell_at (at + j)) ≡ false)
      → scatter taken place (cells_from cell_at at k ++ xs) ws m ≡ scatter taken place xs (drop k ws) m
  skip_scatter cell_at at zero xs ws m room h = refl
  skip_scatter cell_at at (suc k) xs [] m room h = absurd (omega arith)
  skip_scatter cell_at at (suc k) xs (w ∷ ws) m room h =
      let here : taken (cell_at at) ≡ false = (let e : at + 0 ≡ at = omega arith in subst (λ j. taken (cell_at j) ≡ false) e (h 0 (omega arith))) in
      ap (λ z. scatter taken place (cells_from cell_at (suc at) k ++ xs) ws (cond z (set m (place (cell_at at)) w) m)) here
      ∙ skip_scatter cell_at (suc at) k xs ws m (omega arith) (λ j lt. (let e : at + suc j ≡ suc at + j = omega arith in subst (λ i. taken (cell_at i) ≡ false) e (h (suc j) (omega arith))))

  skip_variables : (variable_at : ℕ → VarCell) (is : List ℕ) (ws m : List ℤ) → scatter taken place (index_cells variable_at is) ws m ≡ m
  skip_variables variable_at [] ws m = refl
  skip_variables variable_at (i ∷ is) [] m = refl
  skip_variables variable_at (i ∷ is) (w ∷ ws) m = skip_variables variable_at is ws m

module _ {F : Type 0} (p : Setup F) (l : Layout F) (t : Tables) (q : Indexed p l t) where
  -- the owner's cells
  abbrev mine : ℕ → DatCell → Bool
  mine r c = owner_of p c == r

  -- the rows keep their lengths
  abbrev Wide : List (List ℤ) → Type 0
  Wide ms = (length ms ≡ p.ranks) × ((r : ℕ) → r < p.ranks → length (get_or ms r []) ≡ l.width r)

  abbrev put_span : ℕ → List ℤ → Owned → List (List ℤ) → List (List ℤ)
  put_span from f s ms = set ms s.rank (with_window s.at (cells_at from s.dim f) (get_or ms s.rank []))

  window_fits : (from : ℕ) (f : List ℤ) (s : Owned) (ms : List (List ℤ)) → Wide ms → s.rank < p.ranks → s.at + s.dim ≤ l.width s.rank → from + s.dim ≤ length f
      → length (with_window s.at (cells_at from s.dim f) (get_or ms s.rank [])) ≡ length (get_or ms s.rank [])
  window_fits from f s ms w lr fit room =
      let e : length (cells_at from s.dim f) ≡ s.dim = Rattle.std.proofs.lemmas.List.length-take-le s.dim (drop from f) (omega (arith, length-drop from f)) in
      let n : length (get_or ms s.rank []) ≡ l.width s.rank = w.1 s.rank lr in
      window_length s.at (cells_at from s.dim f) (get_or ms s.rank []) (omega arith)

  wide_put : (from : ℕ) (f : List ℤ) (s : Owned) (ms : List (List ℤ)) → Wide ms → s.rank < p.ranks → s.at + s.dim ≤ l.width s.rank → from + s.dim ≤ length f → Wide (put_span from f s ms)
  wide_put from f s ms w lr fit room = (
    length-set ms s.rank (with_window s.at (cells_at from s.dim f) (get_or ms s.rank [])) ∙ w.0,
    λ r rl. ⊎_elim
        (λ (e : r ≡ s.rank). subst (λ z. length (get_or (put_span from f s ms) z []) ≡ l.width z) (sym e)
        (ap length (get_or-set_same ms s.rank (with_window s.at (cells_at from s.dim f) (get_or ms s.rank [])) []
        (let n : length ms ≡ p.ranks = w.0 in omega arith)) ∙ (window_fits from f s ms w lr fit room ∙ w.1 s.rank lr)))
        (λ (ne : r ≡ s.rank → ⊥). ap length (get_or-set_other ms s.rank r (with_window s.at (cells_at from s.dim f) (get_or ms s.rank [])) [] ne) ∙ w.1 r rl)
        (cases_eq r s.rank),
  )

  -- one span, on the row of any rank
  span_row : (r from : ℕ) (f : List ℤ) (s : Owned) (xs : List Cell) (ms : List (List ℤ)) → Wide ms → r < p.ranks → s.rank < p.ranks
      → s.at + s.dim ≤ l.width s.rank → ((j : ℕ) → j < s.dim → owner_of p (l.cell_at s.rank (s.at + j)) ≡ s.rank) → from + s.dim ≤ length f
      → scatter (mine r) (l.place r) (cells_from (l.cell_at s.rank) s.at s.dim ++ xs) (drop from f) (get_or ms r []) ≡ scatter (mine r)
      (l.place r) xs (drop (from + s.dim) f) (get_or (put_span from f s ms) r [])
  span_row r from f s xs ms w rl lr fit own room =
      let left : s.dim ≤ length (drop from f) = omega (arith, length-drop from f) in
      ⊎_elim
      (λ (e : r ≡ s.rank).
      subst (λ z. scatter (mine z) (l.place z) (cells_from (l.cell_at s.rank) s.at s.dim ++ xs) (drop from f) (get_or ms z []) ≡ scatter
      (mine z) (l.place z) xs (drop (from + s.dim) f) (get_or (put_span from f s ms) z [])) (sym e)
      (span_scatter (mine s.rank) (l.place s.rank) (l.cell_at s.rank) (l.width s.rank) (λ i il. q.place_at s.rank i lr il) s.at s.dim true
      xs (drop from f) (get_or ms s.rank []) (w.1 s.rank lr) fit left
      (λ j jl. ap (λ z. z == s.rank) (own j jl) ∙ eq-eqb s.rank s.rank refl)
      ∙ (ap (λ z. scatter (mine s.rank) (l.place s.rank) xs z (with_window s.at (cells_at from s.dim f) (get_or ms s.rank []))) (drop-drop s.dim from f)
      ∙ ap (scatter (mine s.rank) (l.place s.rank) xs (drop (from + s.dim) f))
      (sym (get_or-set_same ms s.rank (with_window s.at (cells_at from s.dim f) (get_or ms s.rank [])) []
      (let n : length ms ≡ p.ranks = w.0 in omega arith))))))
      (λ (ne : r ≡ s.rank → ⊥).
      skip_scatter (mine r) (l.place r) (l.cell_at s.rank) s.at s.dim xs (drop from f) (get_or ms r []) left (λ j jl. ne_eqb (owner_of p (l.cell_at s.rank (s.at + j))) r (λ z. ne (sym z ∙ own j jl)))
      ∙ (ap (λ z. scatter (mine r) (l.place r) xs z (get_or ms r [])) (drop-drop s.dim from f)
      ∙ ap (scatter (mine r) (l.place r) xs (drop (from + s.dim) f)) (sym (get_or-set_other ms s.rank r (with_window s.at (cells_at from s.dim f) (get_or ms s.rank [])) [] ne))))
      (cases_eq r s.rank)

  pub scatter_wide : (from : ℕ) (f : List ℤ) (ss : List Owned) (ms : List (List ℤ)) → Wide ms → OwnedBy p l t ss → from + total_all ss ≤ length f → Wide (scattered_all from f ss ms)
  scatter_wide from f [] ms w own room = w
  scatter_wide from f (s ∷ ss) ms w own room = scatter_wide (from + s.dim) f ss (put_span from f s ms) (wide_put from f s ms w own.0 own.1 (omega arith)) own.3 (omega arith)

  rows_scatter : (r from : ℕ) (f : List ℤ) (ss : List Owned) (xs : List Cell) (ms : List (List ℤ)) → Wide ms → r < p.ranks → OwnedBy p l t ss → from + total_all ss ≤ length f
      → scatter (mine r) (l.place r) (owned_cells l.cell_at ss ++ xs) (drop from f) (get_or ms r []) ≡ scatter (mine r) (l.place r) xs
      (drop (from + total_all ss) f) (get_or (scattered_all from f ss ms) r [])
  rows_scatter r from f [] xs ms w rl own room = ap (λ n. scatter (mine r) (l.place r) xs (drop n f) (get_or ms r [])) (sym (add-zero from))
  rows_scatter r from f (s ∷ ss) xs ms w rl own room =
      ap (λ z. scatter (mine r) (l.place r) z (drop from f) (get_or ms r [])) (append_assoc (cells_from (l.cell_at s.rank) s.at s.dim) (owned_cells l.cell_at ss) xs)
      ∙ (span_row r from f s (owned_cells l.cell_at ss ++ xs) ms w rl own.0 own.1 own.2 (omega arith)
      ∙ (rows_scatter r (from + s.dim) f ss xs (put_span from f s ms) (wide_put from f s ms w own.0 own.1 (omega arith)) rl own.3 (omega arith)
      ∙ (let e : from + s.dim + total_all ss ≡ from + (s.dim + total_all ss) = omega arith in ap (λ n. scatter (mine r) (l.place r) xs (drop n f) (get_or (scattered_all from f (s ∷ ss) ms) r [])) e)))

  -- a cell of the windows that the rank owns has its place there
  abbrev At : ℕ → DatCell → Type 0
  At r c = (i : ℕ) × (i < l.width r) × (c ≡ l.cell_at r i)

  among_one : (r a at k n : ℕ) (xs : List Cell) (c : DatCell) → at + k ≤ l.width a
      → ((j : ℕ) → j < k → owner_of p (l.cell_at a (at + j)) ≡ a) → owner_of p c ≡ r
      → among (cells_from (l.cell_at a) at k ++ xs) (Data c) ≡ true → At r c ⊎ (among xs (Data c) ≡ true)
  among_one r a at zero n xs c fit own mineness h = inr h
  among_one r a at (suc k) n xs c fit own mineness h = ⊎_elim
      (λ (e : same_cell (Data (l.cell_at a at)) (Data c) ≡ true).
      let i : Data (l.cell_at a at) ≡ Data c = same_cell_true (Data (l.cell_at a at)) (Data c) e in
      let j : l.cell_at a at ≡ c = cc in
      let z : at + 0 ≡ at = omega arith in
      let o : owner_of p (l.cell_at a at) ≡ a = subst (λ m. owner_of p (l.cell_at a m) ≡ a) z (own 0 (omega arith)) in
      let same : a ≡ r = sym o ∙ (ap (owner_of p) j ∙ mineness) in
      let lt : at < l.width a = omega arith in
      inl (at, subst (λ m. at < l.width m) same lt, sym j ∙ ap (λ m. l.cell_at m at) same))
      (λ (e : among (cells_from (l.cell_at a) (suc at) k ++ xs) (Data c) ≡ true).
      among_one r a (suc at) k n xs c (omega arith) (λ j lt. (let z : at + suc j ≡ suc at + j = omega arith in subst (λ m. owner_of p (l.cell_at a m) ≡ a) z (own (suc j) (omega arith)))) mineness e)
      (or_cases (same_cell (Data (l.cell_at a at)) (Data c)) (among (cells_from (l.cell_at a) (suc at) k ++ xs) (Data c)) h)

  among_owned : (r : ℕ) (ss : List Owned) (xs : List Cell) (c : DatCell) → OwnedBy p l t ss → owner_of p c ≡ r
      → among (owned_cells l.cell_at ss ++ xs) (Data c) ≡ true → At r c ⊎ (among xs (Data c) ≡ true)
  among_owned r [] xs c own mineness h = inr h
  among_owned r (s ∷ ss) xs c own mineness h = ⊎_elim (λ i. inl i) (λ i. among_owned r ss xs c own.3 mineness i)
      (among_one r s.rank s.at s.dim 0 (owned_cells l.cell_at ss ++ xs) c own.1 own.2 mineness
      (subst (λ z. among z (Data c) ≡ true) (append_assoc (cells_from (l.cell_at s.rank) s.at s.dim) (owned_cells l.cell_at ss) xs) h))

  among_variables : (is : List ℕ) (c : DatCell) → among (index_cells l.variable_at is) (Data c) ≡ true → ⊥
  among_variables [] c h = false≢true h
  among_variables (i ∷ is) c h = among_variables is c h

  placed : (r : ℕ) (ss : List Owned) (is : List ℕ) → r < p.ranks → OwnedBy p l t ss → Placed (mine r) (l.place r) (l.cell_at r) (owned_cells l.cell_at ss ++ index_cells l.variable_at is) (l.width r)
  placed r ss is rl own = record {
    inside = λ c a m. ⊎_elim (λ (i : At r c). at_place c i) (λ i. absurd (among_variables is c i)) (among_owned r ss (index_cells l.variable_at is) c own (eqb-true (owner_of p c) r m) a);
    one_cell = λ i il. q.place_at r i rl il;
  }
    where
      at_place : (c : DatCell) → At r c → (l.place r c < l.width r) × (l.cell_at r (l.place r c) ≡ c)
      at_place c i = let e : l.place r c ≡ i.0 = ap (l.place r) i.2 ∙ q.place_at r i.0 rl i.1 in (let lt : i.0 < l.width r = i.1 in omega arith, ap (l.cell_at r) e ∙ sym i.2)

  -- each row after the write is looked up by index
  pub row_looked_up : LookUp → (r : ℕ) (ss : List Owned) (is : List ℕ) (cells : List Cell) (ws : List ℤ) (ms : List (List ℤ)) → Wide ms
      → r < p.ranks → OwnedBy p l t ss → total_all ss ≤ length ws → cells ≡ owned_cells l.cell_at ss ++ index_cells l.variable_at is
      → Once cells
      → get_or (scattered_all 0 ws ss ms) r [] ≡ looked_up (mine r) (l.cell_at r) cells ws (get_or ms r [])
  row_looked_up law r ss is cells ws ms w rl own room e once =
      let xs = owned_cells l.cell_at ss ++ index_cells l.variable_at is in
      let both : scatter (mine r) (l.place r) (owned_cells l.cell_at ss ++ index_cells l.variable_at is) ws (get_or ms r []) ≡ get_or (scattered_all 0 ws ss ms) r [] =
      rows_scatter r 0 ws ss (index_cells l.variable_at is) ms w rl own (omega arith)
      ∙ skip_variables (mine r) (l.place r) l.variable_at is (drop (0 + total_all ss) ws) (get_or (scattered_all 0 ws ss ms) r []) in
      sym both
      ∙ (law (mine r) (l.place r) (l.cell_at r) (owned_cells l.cell_at ss ++ index_cells l.variable_at is) ws (get_or ms r []) (subst Once e once)
      (subst (Placed (mine r) (l.place r) (l.cell_at r) (owned_cells l.cell_at ss ++ index_cells l.variable_at is)) (sym (w.1 r rl)) (placed r ss is rl own))
      ∙ ap (λ z. looked_up (mine r) (l.cell_at r) z ws (get_or ms r [])) (sym e))
