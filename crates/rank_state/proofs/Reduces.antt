-- Partials that go into the variables, by index.
use Rattle.std.proofs.Common.{◌≡◌, ℕ, zero, suc, ℤ, pos, ◌<◌, ◌≤◌, true, false, refl, sym, ap, ◌∙◌, arith, ⊎_elim, Option, Some, None, List, [], ◌∷◌, map, length, get_or, set, get_or-set_same, get_or-set_other, length-set}
use Rattle.std.specs.Prelude.{◌==◌}
use Rattle.std.proofs.lemmas.Bool.{cases_Bool, cases_eq, false≢true, false_from_ne_true, or_cases, or_parts, or_left, or_right, cond-true, cond-false, eqb-true, eq-eqb, ne_eqb}
use Rattle.std.proofs.lemmas.List.{ext_get_or, get_or-map, length-map}
use Rattle.op_num.specs.Reduction.{Reduction, unit_of, merged}
use Rattle.schedule_model.specs.Cells.{Variable, VarCell, same_cell}
use Rattle.schedule_model.specs.Tests.{same_cell_refl}
use Rattle.schedule_model.specs.Setup.{Setup}
use Rattle.schedule_model.specs.Machine.{unit_at}
use Rattle.schedule_model.specs.Layout.{Layout, among}
use Rattle.schedule_model.specs.Scatter.{Once}
use Rattle.schedule_model.specs.Flat.{Flat, updated, merge_ranks, reduce_flat}
use Rattle.rank_state.specs.declared.scalars.Scalar.{Scalar}
use Rattle.rank_state.specs.declared.scalars.Scalar.TheVariants.{Value, Amount}
use Rattle.rank_state.specs.Windows.{operation, index, scalar_cells, is_slot, has_slot}
use Rattle.rank_state.specs.Machine.{State}
use Rattle.rank_state.specs.Shows.{Tables, IsScalar, AreScalars, Shows}
use Rattle.rank_state.specs.Joins.{merge_rows, reduce_one, reduce_all, unite_one, unite, reduced, has_index, AreReduced}
use Rattle.rank_state.proofs.Amounts.{slot_site}
use Rattle.schedule_model.proofs.Public.{updated_at, updated_length}

pub reduce_length : (rows : List (List ℤ)) (n : ℕ) (xs : List Scalar) (vs : List ℤ) → length (reduce_all rows n xs vs) ≡ length vs
reduce_length rows n [] vs = refl
reduce_length rows n (x ∷ xs) vs = reduce_length rows n xs (reduce_one rows n x vs) ∙ of_one x
  where
    of_one : (x : Scalar) → length (reduce_one rows n x vs) ≡ length vs
    of_one (Value at) = refl
    of_one (Amount at slot how) = length-set vs at (merge_rows (operation how) slot rows n (get_or vs at (pos 0)))

reduce_other : (rows : List (List ℤ)) (n i : ℕ) (xs : List Scalar) (vs : List ℤ) → has_index i xs ≡ false → get_or (reduce_all rows n xs vs) i (pos 0) ≡ get_or vs i (pos 0)
reduce_other rows n i [] vs h = refl
reduce_other rows n i (x ∷ xs) vs h =
    let e : ((i == index x) ≡ false) × (has_index i xs ≡ false) = or_parts (i == index x) (has_index i xs) h in
    reduce_other rows n i xs (reduce_one rows n x vs) e.1 ∙ of_one x e.0
  where
    of_one : (x : Scalar) → (i == index x) ≡ false → get_or (reduce_one rows n x vs) i (pos 0) ≡ get_or vs i (pos 0)
    of_one (Value at) g = refl
    of_one (Amount at slot how) g = get_or-set_other vs at i (merge_rows (operation how) slot rows n (get_or vs at (pos 0))) (pos 0) (λ e. false≢true (sym g ∙ eq-eqb i at e))

unite_length : (xs : List Scalar) (ps : List ℤ) → length (unite xs ps) ≡ length ps
unite_length [] ps = refl
unite_length (x ∷ xs) ps = unite_length xs (unite_one x ps) ∙ of_one x
  where
    of_one : (x : Scalar) → length (unite_one x ps) ≡ length ps
    of_one (Value at) = refl
    of_one (Amount at slot how) = length-set ps slot (unit_of (operation how))

unite_other : (i : ℕ) (xs : List Scalar) (ps : List ℤ) → has_slot i xs ≡ false → get_or (unite xs ps) i (pos 0) ≡ get_or ps i (pos 0)
unite_other i [] ps h = refl
unite_other i (x ∷ xs) ps h =
    let e : (is_slot i x ≡ false) × (has_slot i xs ≡ false) = or_parts (is_slot i x) (has_slot i xs) h in
    unite_other i xs (unite_one x ps) e.1 ∙ of_one x e.0
  where
    of_one : (x : Scalar) → is_slot i x ≡ false → get_or (unite_one x ps) i (pos 0) ≡ get_or ps i (pos 0)
    of_one (Value at) g = refl
    of_one (Amount at slot how) g = get_or-set_other ps slot i (unit_of (operation how)) (pos 0) (λ e. false≢true (sym g ∙ eq-eqb i slot e))

module _ {F : Type 0} (p : Setup F) (l : Layout F) (t : Tables) (k : ℕ) where
  -- the slot of a scalar is at its unit, whatever later scalars do
  unite_here : (i : ℕ) (xs : List Scalar) (ps : List ℤ) → i < length ps → AreScalars p l t k xs → has_slot i xs ≡ true
      → get_or (unite xs ps) i (pos 0) ≡ unit_at (p.reduces (p.program.site k) (t.reduced_at i))
  unite_here i [] ps lt h e = absurd (false≢true e)
  unite_here i (x ∷ xs) ps lt h e = ⊎_elim
      (λ (y : has_slot i xs ≡ true). unite_here i xs (unite_one x ps) (omega (arith, length_one x)) h.1 y)
      (λ (y : has_slot i xs ≡ false). unite_other i xs (unite_one x ps) y ∙ of_one x h.0 (⊎_elim (λ z. z) (λ z. absurd (false≢true (sym y ∙ z))) (or_cases (is_slot i x) (has_slot i xs) e)))
      (cases_Bool (has_slot i xs))
    where
      length_one : (x : Scalar) → length (unite_one x ps) ≡ length ps
      length_one (Value at) = refl
      length_one (Amount at slot how) = length-set ps slot (unit_of (operation how))

      of_one : (x : Scalar) → IsScalar p l t k x → is_slot i x ≡ true → get_or (unite_one x ps) i (pos 0) ≡ unit_at (p.reduces (p.program.site k) (t.reduced_at i))
      of_one (Value at) g z = absurd (false≢true z)
      of_one (Amount at slot how) g z =
          let j : i ≡ slot = eqb-true i slot z in
          ap (λ n. get_or (set ps slot (unit_of (operation how))) n (pos 0)) j
          ∙ (get_or-set_same ps slot (unit_of (operation how)) (pos 0) (omega arith)
          ∙ ap unit_at (sym (ap (p.reduces (p.program.site k)) (ap t.reduced_at j ∙ g.4) ∙ g.1)))

  index_among : (i : ℕ) (xs : List Scalar) → has_index i xs ≡ true → among (scalar_cells l.variable_at xs) (Variable (l.variable_at i)) ≡ true
  index_among i [] e = absurd (false≢true e)
  index_among i (x ∷ xs) e = ⊎_elim
      (λ (y : (i == index x) ≡ true). or_left (same_cell (Variable (l.variable_at (index x))) (Variable (l.variable_at i))) (among (scalar_cells l.variable_at xs) (Variable (l.variable_at i)))
      (ap (λ z. same_cell (Variable (l.variable_at (index x))) (Variable (l.variable_at z))) (eqb-true i (index x) y) ∙ same_cell_refl (Variable (l.variable_at (index x)))))
      (λ (y : has_index i xs ≡ true). or_right (same_cell (Variable (l.variable_at (index x))) (Variable (l.variable_at i)))
      (among (scalar_cells l.variable_at xs) (Variable (l.variable_at i))) (index_among i xs y))
      (or_cases (i == index x) (has_index i xs) e)

module _ {F : Type 0} (p : Setup F) (l : Layout F) (t : Tables) (st : State F) (f : Flat F) (h : Shows p l t st f) (k : ℕ) where
  merges_none : (v : VarCell) (n : ℕ) (x : ℤ) → merge_ranks p l f None (p.program.site k) v n x ≡ x
  merges_none v zero x = refl
  merges_none v (suc n) x = merges_none v n x

  merges_rows : (o : Reduction) (slot : ℕ) (v : VarCell) → slot < t.slots → t.site_at slot ≡ p.program.site k → t.reduced_at slot ≡ v → (n : ℕ) → n ≤ p.ranks → (x : ℤ)
      → merge_rows o slot st.partials n x ≡ merge_ranks p l f (Some o) (p.program.site k) v n x
  merges_rows o slot v ls site cell zero le x = refl
  merges_rows o slot v ls site cell (suc n) le x =
      ap (λ z. merged o z (get_or (get_or st.partials n []) slot (pos 0))) (merges_rows o slot v ls site cell n (omega arith) x)
      ∙ ap (merged o (merge_ranks p l f (Some o) (p.program.site k) v n x))
      (h.partials n slot (omega arith) ls ∙
      (ap (λ s. f.partials n s (t.reduced_at slot)) site ∙ ap (f.partials n (p.program.site k)) cell))

  -- what one variable's cell becomes
  abbrev after : ℕ → ℤ → ℤ
  after i x = merge_ranks p l f (p.reduces (p.program.site k) (l.variable_at i)) (p.program.site k) (l.variable_at i) p.ranks x

  reduce_here : (i : ℕ) (x : Scalar) (vs : List ℤ) → i < length vs → IsScalar p l t k x → (i == index x) ≡ true → get_or (reduce_one st.partials p.ranks x vs) i (pos 0) ≡ after i (get_or vs i (pos 0))
  reduce_here i (Value at) vs lt g e =
      let o : p.reduces (p.program.site k) (l.variable_at i) ≡ None = ap (λ z. p.reduces (p.program.site k) (l.variable_at z)) (eqb-true i at e) ∙ g.1 in
      sym (ap (λ z. merge_ranks p l f z (p.program.site k) (l.variable_at i) p.ranks (get_or vs i (pos 0))) o ∙ merges_none (l.variable_at i) p.ranks (get_or vs i (pos 0)))
  reduce_here i (Amount at slot how) vs lt g e =
      let j : i ≡ at = eqb-true i at e in
      let o : p.reduces (p.program.site k) (l.variable_at i) ≡ Some (operation how) = ap (λ z. p.reduces (p.program.site k) (l.variable_at z)) j ∙ g.1 in
      ap (λ z. get_or (set vs at (merge_rows (operation how) slot st.partials p.ranks (get_or vs at (pos 0)))) z (pos 0)) j
      ∙ (get_or-set_same vs at (merge_rows (operation how) slot st.partials p.ranks (get_or vs at (pos 0))) (pos 0) (omega arith)
      ∙ (ap (λ z. merge_rows (operation how) slot st.partials p.ranks (get_or vs z (pos 0))) (sym j)
      ∙ (merges_rows (operation how) slot (l.variable_at i) g.2 g.3 (g.4 ∙ ap l.variable_at (sym j)) p.ranks (omega arith) (get_or vs i (pos 0))
      ∙ ap (λ z. merge_ranks p l f z (p.program.site k) (l.variable_at i) p.ranks (get_or vs i (pos 0))) (sym o))))

  reduce_at : (i : ℕ) (xs : List Scalar) (vs : List ℤ) → i < length vs → AreScalars p l t k xs → Once (scalar_cells l.variable_at xs)
      → has_index i xs ≡ true → get_or (reduce_all st.partials p.ranks xs vs) i (pos 0) ≡ after i (get_or vs i (pos 0))
  reduce_at i [] vs lt g once e = absurd (false≢true e)
  reduce_at i (x ∷ xs) vs lt g once e = ⊎_elim
      (λ (y : (i == index x) ≡ true).
      let rest : has_index i xs ≡ false = false_from_ne_true (has_index i xs)
      (λ z. false≢true (sym once.0 ∙ (ap (λ c. among (scalar_cells l.variable_at xs) (Variable (l.variable_at c)))
      (sym (eqb-true i (index x) y)) ∙ index_among p l t k i xs z))) in
      reduce_other st.partials p.ranks i xs (reduce_one st.partials p.ranks x vs) rest ∙ reduce_here i x vs lt g.0 y)
      (λ (y : (i == index x) ≡ false).
      let rest : has_index i xs ≡ true = ⊎_elim (λ z. absurd (false≢true (sym y ∙ z))) (λ z. z) (or_cases (i == index x) (has_index i xs) e) in
      reduce_at i xs (reduce_one st.partials p.ranks x vs) (omega (arith, length_one x)) g.1 once.1 rest ∙ ap (after i) (other_one x y))
      (cases_Bool (i == index x))
    where
      length_one : (x : Scalar) → length (reduce_one st.partials p.ranks x vs) ≡ length vs
      length_one (Value at) = refl
      length_one (Amount at slot how) = length-set vs at (merge_rows (operation how) slot st.partials p.ranks (get_or vs at (pos 0)))

      other_one : (x : Scalar) → (i == index x) ≡ false → get_or (reduce_one st.partials p.ranks x vs) i (pos 0) ≡ get_or vs i (pos 0)
      other_one (Value at) z = refl
      other_one (Amount at slot how) z = get_or-set_other vs at i (merge_rows (operation how) slot st.partials p.ranks (get_or vs at (pos 0))) (pos 0) (λ q. false≢true (sym z ∙ eq-eqb i at q))

  -- an index of no scalar has no reduction
  reduce_any : (scalars : List Scalar) → AreReduced p l t k scalars → (i : ℕ) → i < l.variables
      → get_or (reduce_all st.partials p.ranks scalars st.variables) i (pos 0) ≡ after i (get_or st.variables i (pos 0))
  reduce_any scalars g i lt =
      let il : i < length st.variables = (let w : length st.variables ≡ l.variables = h.sized.count in omega arith) in
      ⊎_elim
      (λ (y : has_index i scalars ≡ true). reduce_at i scalars st.variables il g.are_scalars g.once y)
      (λ (y : has_index i scalars ≡ false).
      reduce_other st.partials p.ranks i scalars st.variables y
      ∙ sym (ap (λ z. merge_ranks p l f z (p.program.site k) (l.variable_at i) p.ranks (get_or st.variables i (pos 0)))
      (no_reduction (p.reduces (p.program.site k) (l.variable_at i)) refl y)
      ∙ merges_none (l.variable_at i) p.ranks (get_or st.variables i (pos 0))))
      (cases_Bool (has_index i scalars))
    where
      no_reduction : (o : Option Reduction) → p.reduces (p.program.site k) (l.variable_at i) ≡ o → has_index i scalars ≡ false → p.reduces (p.program.site k) (l.variable_at i) ≡ None
      no_reduction None e y = e
      no_reduction (Some o) e y = absurd (false≢true (sym y ∙ g.cells i o lt e))

  pub reduce_shows : (scalars : List Scalar) → AreReduced p l t k scalars → Shows p l t (reduced scalars st) (reduce_flat p l k f)
  reduce_shows scalars g =
      let rows : length st.partials ≡ p.ranks = h.sized.partials in
      record {
        sized = record {
          ranks = h.sized.ranks;
          widths = h.sized.widths;
          count = reduce_length st.partials (length st.partials) scalars st.variables ∙ h.sized.count;
          partials = length-map st.partials (unite scalars) ∙ rows;
          slots = λ r lt. ap length (united_row r lt) ∙ (unite_length scalars (get_or st.partials r []) ∙ h.sized.slots r lt);
          panes = h.sized.panes;
          places = h.sized.places;
          stride = h.sized.stride;
        };
        memories = h.memories;
        variables = ap (λ n. reduce_all st.partials n scalars st.variables) rows
            ∙ (ext_get_or (pos 0) (reduce_all st.partials p.ranks scalars st.variables) (updated after 0 st.variables)
            (reduce_length st.partials p.ranks scalars st.variables ∙ sym (updated_length after 0 st.variables))
            (λ i il. let lt : i < length st.variables =
            (let w : length (reduce_all st.partials p.ranks scalars st.variables) ≡ length st.variables =
            reduce_length st.partials p.ranks scalars st.variables in omega arith) in
            reduce_any scalars g i (let w : length st.variables ≡ l.variables = h.sized.count in omega arith) ∙ sym (updated_at after st.variables i (pos 0) lt))
            ∙ ap (updated after 0) h.variables);
        partials = λ r i rl il.
            ap (λ z. get_or z i (pos 0)) (united_row r rl)
            ∙ ⊎_elim
            (λ (y : t.site_at i ≡ p.program.site k).
            unite_here p l t k i scalars (get_or st.partials r []) (let w : length (get_or st.partials r []) ≡ t.slots = h.sized.slots r rl in omega arith) g.are_scalars (g.slots i il y)
            ∙ (ap (λ s. unit_at (p.reduces s (t.reduced_at i))) (sym y)
            ∙ sym (cond-true (t.site_at i == p.program.site k) (unit_at (p.reduces (t.site_at i) (t.reduced_at i)))
            (f.partials r (t.site_at i) (t.reduced_at i)) (eq-eqb (t.site_at i) (p.program.site k) y))))
            (λ (y : t.site_at i ≡ p.program.site k → ⊥).
            unite_other i scalars (get_or st.partials r []) (false_from_ne_true (has_slot i scalars) (λ z. y (slot_site p l t k i scalars g.are_scalars z)))
            ∙ (h.partials r i rl il
            ∙ sym (cond-false (t.site_at i == p.program.site k) (unit_at (p.reduces (t.site_at i) (t.reduced_at i)))
            (f.partials r (t.site_at i) (t.reduced_at i)) (ne_eqb (t.site_at i) (p.program.site k) y))))
            (cases_eq (t.site_at i) (p.program.site k));
        mail = h.mail;
        whole = h.whole;
        panes = h.panes;
        held = h.held;
        elements = h.elements;
        fault = h.fault;
        output = h.output;
        stop = h.stop;
      }
    where
      united_row : (r : ℕ) → r < p.ranks → get_or (map (unite scalars) st.partials) r [] ≡ unite scalars (get_or st.partials r [])
      united_row r lt = get_or-map (unite scalars) st.partials r [] [] (let w : length st.partials ≡ p.ranks = h.sized.partials in omega arith)
