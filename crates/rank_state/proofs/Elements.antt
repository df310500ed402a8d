-- An element of an Ordered loop: its windows, and what it leaves.
use Rattle.std.proofs.Common.{◌≡◌, ℕ, zero, suc, ℤ, pos, ◌+◌, ◌<◌, ◌≤◌, false, cond, refl, sym, ap, ap₂, subst, ◌∙◌, arith, ⊎_elim, List, [], ◌∷◌, ◌++◌, map, length, take, drop, get_or, set, get_or-set_same, get_or-set_other, length-set, length-drop, append_assoc}
use Rattle.std.specs.Prelude.{◌==◌}
use Rattle.std.proofs.lemmas.Bool.{cases_eq, false_from_ne_true, cond-true, cond-false}
use Rattle.std.proofs.lemmas.List.{append-nil, map-append, ext_get_or, drop-drop}
use Rattle.std.proofs.Math.Seq.{drop-cons}
use Rattle.schedule_model.specs.Cells.{Cell, Data, Variable, DatCell, VarCell, same_cell}
use Rattle.schedule_model.specs.Tests.{same_cell_refl, same_cell_true}
use Rattle.schedule_model.specs.Setup.{Setup, owner_of}
use Rattle.schedule_model.specs.Layout.{Layout, Leaves, lookup, among}
use Rattle.schedule_model.specs.Scatter.{Once}
use Rattle.schedule_model.specs.Flat.{Flat, updated, updated_rows, owned, element_flat}
use Rattle.rank_state.specs.declared.owned.Owned.{Owned}
use Rattle.rank_state.specs.Windows.{cells_from}
use Rattle.rank_state.specs.Spans.{cells_at}
use Rattle.rank_state.specs.Machine.{State}
use Rattle.rank_state.specs.Shows.{Tables, Indexed, Shows}
use Rattle.rank_state.specs.Ordered.{total_all, gathered_all, scattered_all, index_cells, put_values, owned_cells, OwnedBy, InVariables, AreOwned, put_back, all_windows}
use Rattle.rank_state.specs.Indices.{values_at}
use Rattle.rank_state.proofs.Scatters.{LookUp}
use Rattle.schedule_model.proofs.Public.{updated_at, updated_length, rows_length, rows_at}
use Rattle.rank_state.proofs.Ordered.{row_looked_up, scatter_wide}

-- the values of a part of a buffer
gather_range : (cell_at : ℕ → DatCell) (value : Cell → ℤ) (m : List ℤ) (at n : ℕ) → at + n ≤ length m
    → ((j : ℕ) → j < n → value (Data (cell_at (at + j))) ≡ get_or m (at + j) (pos 0))
    → take n (drop at m) ≡ map value (cells_from cell_at at n)
gather_range cell_at value m at zero h v = refl
gather_range cell_at value m at (suc n) h v =
    let here : value (Data (cell_at at)) ≡ get_or m at (pos 0) = (let e : at + 0 ≡ at = omega arith in subst (λ j. value (Data (cell_at j)) ≡ get_or m j (pos 0)) e (v 0 (omega arith))) in
    ap (take (suc n)) (drop-cons m at (pos 0) (omega arith))
    ∙ (ap (λ x. x ∷ take n (drop (suc at) m)) (sym here)
    ∙ ap (λ xs. value (Data (cell_at at)) ∷ xs)
    (gather_range cell_at value m (suc at) n (omega arith)
    (λ j lt. (let e : at + suc j ≡ suc at + j = omega arith in
    subst (λ i. value (Data (cell_at i)) ≡ get_or m i (pos 0)) e (v (suc j) (omega arith))))))

lookup_none : (xs : List Cell) (ws : List ℤ) (c : Cell) (d : ℤ) → among xs c ≡ false → lookup xs ws c d ≡ d
lookup_none [] ws c d h = refl
lookup_none (x ∷ xs) [] c d h = refl
lookup_none (x ∷ xs) (w ∷ ws) c d h =
    let a : (same_cell x c ≡ false) × (among xs c ≡ false) = Rattle.std.proofs.lemmas.Bool.or_parts (same_cell x c) (among xs c) h in
    cond-false (same_cell x c) w (lookup xs ws c d) a.0 ∙ lookup_none xs ws c d a.1

lookup_behind : (cell_at : ℕ → DatCell) (at n : ℕ) (xs : List Cell) (ws : List ℤ) (v : VarCell) (d : ℤ) → n ≤ length ws
    → lookup (cells_from cell_at at n ++ xs) ws (Variable v) d ≡ lookup xs (drop n ws) (Variable v) d
lookup_behind cell_at at zero xs ws v d h = refl
lookup_behind cell_at at (suc n) xs [] v d h = absurd (omega arith)
lookup_behind cell_at at (suc n) xs (w ∷ ws) v d h = lookup_behind cell_at (suc at) n xs ws v d (omega arith)

lookup_owned : (cell_at : ℕ → ℕ → DatCell) (ss : List Owned) (xs : List Cell) (ws : List ℤ) (v : VarCell) (d : ℤ) → total_all ss ≤ length ws
    → lookup (owned_cells cell_at ss ++ xs) ws (Variable v) d ≡ lookup xs (drop (total_all ss) ws) (Variable v) d
lookup_owned cell_at [] xs ws v d h = refl
lookup_owned cell_at (s ∷ ss) xs ws v d h =
    ap (λ z. lookup z ws (Variable v) d) (append_assoc (cells_from (cell_at s.rank) s.at s.dim) (owned_cells cell_at ss) xs)
    ∙ (lookup_behind (cell_at s.rank) s.at s.dim (owned_cells cell_at ss ++ xs) ws v d (omega arith)
    ∙ (lookup_owned cell_at ss xs (drop s.dim ws) v d (omega (arith, length-drop s.dim ws)) ∙ ap (λ z. lookup xs z (Variable v) d) (drop-drop (total_all ss) s.dim ws)))

once_behind : (xs ys : List Cell) → Once (xs ++ ys) → Once ys
once_behind [] ys h = h
once_behind (x ∷ xs) ys h = once_behind xs ys h.1

cells_length : (cell_at : ℕ → DatCell) (at n : ℕ) (xs : List Cell) → length (cells_from cell_at at n ++ xs) ≡ n + length xs
cells_length cell_at at zero xs = omega arith
cells_length cell_at at (suc n) xs = let e : length (cells_from cell_at (suc at) n ++ xs) ≡ n + length xs = cells_length cell_at (suc at) n xs in omega arith

pub owned_length : (cell_at : ℕ → ℕ → DatCell) (ss : List Owned) (xs : List Cell) → length (owned_cells cell_at ss ++ xs) ≡ total_all ss + length xs
owned_length cell_at [] xs = omega arith
owned_length cell_at (s ∷ ss) xs =
    let e : length (cells_from (cell_at s.rank) s.at s.dim ++ (owned_cells cell_at ss ++ xs)) ≡ s.dim + length
    (owned_cells cell_at ss ++ xs) = cells_length (cell_at s.rank) s.at s.dim (owned_cells cell_at ss ++ xs) in
    let i : length (owned_cells cell_at ss ++ xs) ≡ total_all ss + length xs = owned_length cell_at ss xs in
    ap length (append_assoc (cells_from (cell_at s.rank) s.at s.dim) (owned_cells cell_at ss) xs) ∙ omega arith

put_length : (is : List ℕ) (ws vs : List ℤ) → length (put_values is ws vs) ≡ length vs
put_length [] ws vs = refl
put_length (i ∷ is) [] vs = refl
put_length (i ∷ is) (w ∷ ws) vs = put_length is ws (set vs i w) ∙ length-set vs i w

module _ {F : Type 0} (p : Setup F) (l : Layout F) (t : Tables) (q : Indexed p l t) (st : State F) (f : Flat F) (h : Shows p l t st f) where
  wide_is : (length st.memories ≡ p.ranks) × ((r : ℕ) → r < p.ranks → length (get_or st.memories r []) ≡ l.width r)
  wide_is = (h.sized.ranks, h.sized.widths)

  owned_at : (r i : ℕ) → r < p.ranks → i < l.width r → owner_of p (l.cell_at r i) ≡ r → owned p l f (Data (l.cell_at r i)) ≡ get_or (get_or st.memories r []) i (pos 0)
  owned_at r i rl il own =
      ap (λ a. get_or (get_or f.memories a []) (l.place a (l.cell_at r i)) (pos 0)) own
      ∙ (ap (λ j. get_or (get_or f.memories r []) j (pos 0)) (q.place_at r i rl il) ∙ ap (λ ms. get_or (get_or ms r []) i (pos 0)) (sym h.memories))

  gathers : (ss : List Owned) → OwnedBy p l t ss → gathered_all st.memories ss ≡ map (owned p l f) (owned_cells l.cell_at ss)
  gathers [] own = refl
  gathers (s ∷ ss) own =
      ap₂ (λ a b. a ++ b)
      (gather_range (l.cell_at s.rank) (owned p l f) (get_or st.memories s.rank []) s.at s.dim
      (let w : length (get_or st.memories s.rank []) ≡ l.width s.rank = h.sized.widths s.rank own.0 in omega (arith, own.1))
      (λ j lt. owned_at s.rank (s.at + j) own.0 (omega (arith, own.1)) (own.2 j lt)))
      (gathers ss own.3)
      ∙ sym (map-append (owned p l f) (cells_from (l.cell_at s.rank) s.at s.dim) (owned_cells l.cell_at ss))

  pub owner_gathers : (o : Owned) → o.rank < p.ranks → o.at + o.dim ≤ l.width o.rank → ((j : ℕ) → j < o.dim → owner_of p (l.cell_at o.rank (o.at + j)) ≡ o.rank)
      → cells_at o.at o.dim (get_or st.memories o.rank []) ≡ map (owned p l f) (cells_from (l.cell_at o.rank) o.at o.dim)
  owner_gathers o lr room own = sym (append-nil (cells_at o.at o.dim (get_or st.memories o.rank [])))
      ∙ (gathers (o ∷ []) (lr, room, own, tt) ∙ ap (map (owned p l f)) (append-nil (cells_from (l.cell_at o.rank) o.at o.dim)))

  values : (is : List ℕ) → InVariables p l t is → values_at st.variables is ≡ map (owned p l f) (index_cells l.variable_at is)
  values [] g = refl
  values (i ∷ is) g =
      ap₂ (λ a b. a ∷ b) (ap (λ vs. get_or vs i (pos 0)) h.variables ∙ ap (λ j. get_or f.variables j (pos 0)) (sym (q.index_at i g.0))) (values is g.1)

  pub windows_owned : (k e : ℕ) (ss : List Owned) (is : List ℕ) → AreOwned p l t k e ss is → all_windows ss is st ≡ map (owned p l f) (l.cells k e)
  windows_owned k e ss is g =
      ap₂ (λ a b. a ++ b) (gathers ss g.owned) (values is g.variables)
      ∙ (sym (map-append (owned p l f) (owned_cells l.cell_at ss) (index_cells l.variable_at is)) ∙ ap (map (owned p l f)) (sym g.cells))

  -- a variable's value among those that are put back
  put_at : (is : List ℕ) (ws vs : List ℤ) (i : ℕ) → i < length vs → length vs ≡ l.variables → InVariables p l t is
      → Once (index_cells l.variable_at is) → get_or (put_values is ws vs) i (pos 0) ≡ lookup (index_cells l.variable_at is) ws
      (Variable (l.variable_at i)) (get_or vs i (pos 0))
  put_at [] ws vs i lt n g once = refl
  put_at (j ∷ is) [] vs i lt n g once = refl
  put_at (j ∷ is) (w ∷ ws) vs i lt n g once =
      put_at is ws (set vs j w) i (omega (arith, length-set vs j w)) (length-set vs j w ∙ n) g.1 once.1
      ∙ ⊎_elim
      (λ (e : i ≡ j).
      let none : among (index_cells l.variable_at is) (Variable (l.variable_at i)) ≡ false = ap (λ z. among (index_cells l.variable_at is) (Variable (l.variable_at z))) e ∙ once.0 in
      lookup_none (index_cells l.variable_at is) ws (Variable (l.variable_at i)) (get_or (set vs j w) i (pos 0)) none
      ∙ (ap (λ z. get_or (set vs j w) z (pos 0)) e
      ∙ (get_or-set_same vs j w (pos 0) (omega arith)
      ∙ sym (cond-true (same_cell (Variable (l.variable_at j)) (Variable (l.variable_at i))) w (lookup (index_cells l.variable_at is) ws (Variable (l.variable_at i)) (get_or vs i (pos 0)))
      (ap (λ z. same_cell (Variable (l.variable_at j)) (Variable (l.variable_at z))) e ∙ same_cell_refl (Variable (l.variable_at j)))))))
      (λ (ne : i ≡ j → ⊥).
      let other : same_cell (Variable (l.variable_at j)) (Variable (l.variable_at i)) ≡ false = false_from_ne_true (same_cell (Variable (l.variable_at j)) (Variable (l.variable_at i)))
      (λ z. let a : Variable (l.variable_at j) ≡ Variable (l.variable_at i) = same_cell_true (Variable (l.variable_at j)) (Variable (l.variable_at i)) z in
      let b : l.variable_at j ≡ l.variable_at i = cc in
      let il : i < l.variables = omega arith in
      ne (sym (q.index_at i il) ∙ (ap l.index_of (sym b) ∙ q.index_at j g.0))) in
      ap (lookup (index_cells l.variable_at is) ws (Variable (l.variable_at i))) (get_or-set_other vs j i w (pos 0) ne)
      ∙ sym (cond-false (same_cell (Variable (l.variable_at j)) (Variable (l.variable_at i))) w (lookup (index_cells l.variable_at is) ws (Variable (l.variable_at i)) (get_or vs i (pos 0))) other))
      (cases_eq i j)

  pub element_leaves : LookUp → (k e : ℕ) (ss : List Owned) (is : List ℕ) → AreOwned p l t k e ss is → (ws : List ℤ)
      → length ws ≡ length (l.cells k e) → Shows p l t (put_back ss is ws st) (element_flat p l k e (Leaves ws) f)
  element_leaves law k e ss is g ws len =
      let all : length ws ≡ total_all ss + length (index_cells l.variable_at is) = len ∙ (ap length g.cells ∙ owned_length l.cell_at ss (index_cells l.variable_at is)) in
      let room : total_all ss ≤ length ws = omega arith in
      let wide = scatter_wide p l t q 0 ws ss st.memories wide_is g.owned (omega arith) in
      let there : ℕ → ℕ → ℤ → ℤ = λ r i v. cond (owner_of p (l.cell_at r i) == r) (lookup (l.cells k e) ws (Data (l.cell_at r i)) v) v in
      let here : ℕ → ℤ → ℤ = λ i v. lookup (l.cells k e) ws (Variable (l.variable_at i)) v in
      record {
        sized = record {
          ranks = wide.0;
          widths = wide.1;
          count = put_length is (drop (total_all ss) ws) st.variables ∙ h.sized.count;
          partials = h.sized.partials;
          slots = h.sized.slots;
          panes = h.sized.panes;
          places = h.sized.places;
          stride = h.sized.stride;
        };
        memories = ext_get_or [] (scattered_all 0 ws ss st.memories) (updated_rows there 0 st.memories) (wide.0 ∙ (sym h.sized.ranks ∙ sym (rows_length there 0 st.memories)))
            (λ r rl. row_looked_up p l t q law r ss is (l.cells k e) ws st.memories wide_is
            (let n : length (scattered_all 0 ws ss st.memories) ≡ p.ranks = wide.0 in omega arith) g.owned room g.cells g.once
            ∙ sym (rows_at there st.memories r))
            ∙ ap (updated_rows there 0) h.memories;
        variables = ext_get_or (pos 0) (put_values is (drop (total_all ss) ws) st.variables) (updated here 0 st.variables)
            (put_length is (drop (total_all ss) ws) st.variables ∙ sym (updated_length here 0 st.variables))
            (λ i il. let lt : i < length st.variables =
            (let n : length (put_values is (drop (total_all ss) ws) st.variables) ≡ length st.variables =
            put_length is (drop (total_all ss) ws) st.variables in omega arith) in
            put_at is (drop (total_all ss) ws) st.variables i lt h.sized.count g.variables (once_behind (owned_cells l.cell_at ss) (index_cells l.variable_at is) (subst Once g.cells g.once))
            ∙ (sym (lookup_owned l.cell_at ss (index_cells l.variable_at is) ws (l.variable_at i) (get_or st.variables i (pos 0)) room)
            ∙ (ap (λ z. lookup z ws (Variable (l.variable_at i)) (get_or st.variables i (pos 0))) (sym g.cells) ∙ sym (updated_at here st.variables i (pos 0) lt))))
            ∙ ap (updated here 0) h.variables;
        partials = h.partials;
        mail = h.mail;
        whole = h.whole;
        panes = h.panes;
        held = h.held;
        elements = h.elements;
        fault = h.fault;
        output = h.output;
        stop = h.stop;
      }
