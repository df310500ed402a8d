-- The ring's layout is that of its plan.
use Rattle.std.proofs.Common.{◌≡◌, ℕ, zero, suc, ◌+◌, ◌*◌, ◌<◌, pos, Bool, true, false, cond, ◌⊎◌, inl, inr, refl, sym, ap, subst, ◌∙◌, arith, ⊎_elim, Some, None, List, [], ◌∷◌, length, get_or}
use Rattle.std.specs.Prelude.{◌&&◌, ◌||◌, ◌==◌, nat_lt}
use Rattle.std.proofs.lemmas.Bool.{cases_eq, cases_Bool, false≢true, and_parts, and_from, or_left, or_cases, cond-true, cond-false, eqb-true, eq-eqb, ne_eqb, ltb-true, lt-ltb}
use Rattle.op_num.specs.Reduction.{Reduction, Add}
use Rattle.schedule_model.specs.Cells.{Cell, Data, Variable, DatCell, VarCell, Store, same_cell}
use Rattle.schedule_model.specs.Tests.{same_cell_refl, same_cell_true}
use Rattle.schedule_model.specs.Effects.{Untouched, Written, is_modified}
use Rattle.schedule_model.specs.Program.{Free, is_free, Goes, is_loop}
use Rattle.schedule_model.specs.Setup.{owner_of, has_copy, executes}
use Rattle.schedule_model.specs.Machine.{arrives, unit_at}
use Rattle.schedule_model.specs.Layout.{IsLayout, HostedAlike, among, is_cell, Exists, Has}
use Rattle.schedule_model.specs.Flat.{StartsFlat}
use Rattle.schedule_model.specs.Ring.{other, x_cell, r_cell, x, r, sum, is_x, is_r, is_sum, kind, site, touch, reduces, digits, modifies, needs, ring, one_cell, base, is_variable, kept_variables, first_value}
use Rattle.schedule_model.specs.RingLayout.{cells, side, of_side, cell_at, exports, count, ring_layout, ring_start}
use Rattle.schedule_model.proofs.flat_machine.schedule_examples.Lawful.{OfNode, of_node, owner_in, other_is, other_not, writes_own, is_merged, modified, all_edges}
use Rattle.schedule_model.proofs.flat_machine.schedule_examples.Windows.{r_is, sum_is, two, is_x_of, all, run_is, same_length}
use Rattle.lemmas.proofs.Truth.{iff_eq}

module _ (faulty : Bool) where
  -- ---- cells that exist
  abbrev real : DatCell → Bool
  real c = is_cell (ring faulty) (ring_layout faulty) c

  x_real : (n : ℕ) → n < 2 → real (x_cell n) ≡ true
  x_real n lt = and_from (nat_lt n 2) true (lt-ltb n 2 lt) refl

  r_real : (n : ℕ) → n < 2 → real (r_cell n) ≡ true
  r_real n lt = and_from (nat_lt n 2) true (lt-ltb n 2 lt) refl

  record Real (c : DatCell) : Type 0 where
    dat : c.dat < 2
    element : c.element < 2
    component : c.component ≡ 0

  is_real : (c : DatCell) → real c ≡ true → Real c
  is_real c h =
      let a : (nat_lt c.dat 2 ≡ true) × ((nat_lt c.element 2 && nat_lt c.component 1) ≡ true) = and_parts (nat_lt c.dat 2) (nat_lt c.element 2 && nat_lt c.component 1) h in
      let b : (nat_lt c.element 2 ≡ true) × (nat_lt c.component 1 ≡ true) = and_parts (nat_lt c.element 2) (nat_lt c.component 1) a.1 in
      let i : c.component < 1 = ltb-true c.component 1 b.1 in
      record { dat = ltb-true c.dat 2 a.0; element = ltb-true c.element 2 b.0; component = omega arith }

  pub below : (n : ℕ) → n < 2 → other n < 2
  below n lt = two (λ n. other n < 2) (omega arith) (omega arith) n lt

  -- one of a list's cells
  is_first : (y : Cell) (xs : List Cell) (c : Cell) → among (y ∷ xs) c ≡ true → (y ≡ c) ⊎ (among xs c ≡ true)
  is_first y xs c h = ⊎_elim (λ t. inl (same_cell_true y c t)) (λ t. inr t) (or_cases (same_cell y c) (among xs c) h)

  abbrev There : Cell → Type 0
  There c = Exists (ring faulty) (ring_layout faulty) c

  exist_pair : (e : ℕ) (c : Cell) → e < 2 → among (x e ∷ r e ∷ []) c ≡ true → There c
  exist_pair e c lt h = ⊎_elim
      (λ i. subst There i (x_real e lt))
      (λ t. ⊎_elim (λ i. subst There i (r_real e lt)) (λ u. absurd (false≢true u)) (is_first (r e) [] c t))
      (is_first (x e) (r e ∷ []) c h)

  exist : (k e : ℕ) (c : Cell) → is_loop (kind k) ≡ true → e < 2 → among (cells k e) c ≡ true → There c
  exist zero e c lp lt h = ⊎_elim
      (λ i. subst There i (x_real e lt))
      (λ t. ⊎_elim (λ i. subst There i (omega arith, refl)) (λ u. absurd (false≢true u)) (is_first base [] c t))
      (is_first (x e) (base ∷ []) c h)
  exist (suc zero) e c lp lt h = ⊎_elim
      (λ i. subst There i (x_real 0 (omega arith)))
      (λ t. ⊎_elim
      (λ i. subst There i (x_real 1 (omega arith)))
      (λ t. ⊎_elim
      (λ i. subst There i (r_real 0 (omega arith)))
      (λ t. ⊎_elim
      (λ i. subst There i (r_real 1 (omega arith)))
      (λ t. ⊎_elim (λ i. subst There i (omega arith, refl)) (λ u. absurd (false≢true u)) (is_first sum [] c t))
      (is_first (r 1) (sum ∷ []) c t))
      (is_first (r 0) (r 1 ∷ sum ∷ []) c t))
      (is_first (x 1) (r 0 ∷ r 1 ∷ sum ∷ []) c t))
      (is_first (x 0) (x 1 ∷ r 0 ∷ r 1 ∷ sum ∷ []) c h)
  exist (suc (suc n)) e c lp lt h = exist_pair e c lt h

  -- each rank has every cell that exists
  has_all : (t : ℕ) (c : DatCell) → t < 2 → c.element < 2 → Has (ring faulty) (ring_layout faulty) t c
  has_all t c lt le = ⊎_elim
      (λ (i : c.element ≡ t). inl (owner_in faulty c le ∙ i))
      (λ (ne : c.element ≡ t → ⊥). inr (and_from (nat_lt c.element 2) (false || (c.element == other t)) (lt-ltb c.element 2 le) (eq-eqb c.element (other t) (other_is faulty t c.element lt le ne))))
      (cases_eq c.element t)

  loop_of : (k : ℕ) → kind k ≡ Free → is_loop (kind k) ≡ true
  loop_of k fr = ap is_loop fr

  held : (k t e : ℕ) (c : DatCell) → kind k ≡ Free → t < 2 → e < 2 → executes (ring faulty) k t e ≡ true → among (cells k e) (Data c) ≡ true → Has (ring faulty) (ring_layout faulty) t c
  held k t e c fr lt le ex h = has_all t c lt (is_real c (exist k e (Data c) (loop_of k fr) le h)).element

  modified_held : (k e : ℕ) (c : DatCell) → kind k ≡ Free → e < 2 → is_modified (touch k e (Data c)) ≡ true → among (cells k e) (Data c) ≡ true
  modified_held zero e c fr lt h =
      let a : OfNode c 0 × (c.element ≡ e) = writes_own faulty e c h in
      or_left (same_cell (x e) (Data c)) (among (base ∷ []) (Data c)) (sym (is_x_of e c lt) ∙ writes_x e c h)
    where
      by_bool : (b : Bool) → is_modified (cond b Written Untouched) ≡ true → b ≡ true
      by_bool true h = refl
      by_bool false h = absurd (false≢true h)

      writes_x : (e : ℕ) (c : DatCell) → is_modified (touch 0 e (Data c)) ≡ true → (is_x c && (c.element == e)) ≡ true
      writes_x e c h = by_bool (is_x c && (c.element == e)) h
  modified_held (suc zero) e c fr lt h =
      let a : (is_x c ≡ false) × (is_r c ≡ true) = is_merged faulty (is_x c) (is_r c) h in
      subst (λ z. among all (Data z) ≡ true) (sym (r_is c a.1)) (two (λ n. among all (r n) ≡ true) refl refl c.element (of_node c 1 a.1).below)
  modified_held (suc (suc zero)) e c fr lt h = cc
  modified_held (suc (suc (suc zero))) e c fr lt h = cc
  modified_held (suc (suc (suc (suc n)))) e c fr lt h = cc

  -- a window on a dat that the item modifies is of a modified cell
  window_modified : (k e : ℕ) (c : DatCell) → kind k ≡ Free → e < 2 → modifies k c.dat ≡ true → among (cells k e) (Data c) ≡ true → is_modified (touch k e (Data c)) ≡ true
  window_modified zero e c fr lt m h = ⊎_elim
      (λ (i : x e ≡ Data c). let j : x_cell e ≡ c = cc in subst (λ z. is_modified (touch 0 e (Data z)) ≡ true) j here)
      (λ t. ⊎_elim (λ i. absurd (let n : base ≡ Data c = i in cc)) (λ u. absurd (false≢true u)) (is_first base [] (Data c) t))
      (is_first (x e) (base ∷ []) (Data c) h)
    where
      here : is_modified (touch 0 e (x e)) ≡ true
      here = ap (λ b. is_modified (cond b Written Untouched)) (and_from (is_x (x_cell e)) (e == e) (and_from (nat_lt e 2) true (lt-ltb e 2 lt) refl) (eq-eqb e e refl))
  window_modified (suc zero) e c fr lt m h = ⊎_elim
      (λ i. absurd (no_x 0 i))
      (λ t. ⊎_elim
      (λ i. absurd (no_x 1 i))
      (λ t. ⊎_elim
      (λ i. at_r 0 refl i)
      (λ t. ⊎_elim
      (λ i. at_r 1 refl i)
      (λ t. ⊎_elim (λ i. absurd (let n : sum ≡ Data c = i in cc)) (λ u. absurd (false≢true u)) (is_first sum [] (Data c) t))
      (is_first (r 1) (sum ∷ []) (Data c) t))
      (is_first (r 0) (r 1 ∷ sum ∷ []) (Data c) t))
      (is_first (x 1) (r 0 ∷ r 1 ∷ sum ∷ []) (Data c) t))
      (is_first (x 0) (x 1 ∷ r 0 ∷ r 1 ∷ sum ∷ []) (Data c) h)
    where
      no_x : (n : ℕ) → x n ≡ Data c → ⊥
      no_x n i = let j : x_cell n ≡ c = cc in false≢true (subst (λ z. (z.dat == 1) ≡ true) (sym j) m)

      at_r : (n : ℕ) → is_modified (touch 1 e (r n)) ≡ true → r n ≡ Data c → is_modified (touch 1 e (Data c)) ≡ true
      at_r n t i = subst (λ z. is_modified (touch 1 e z) ≡ true) i t
  window_modified (suc (suc zero)) e c fr lt m h = cc
  window_modified (suc (suc (suc zero))) e c fr lt m h = cc
  window_modified (suc (suc (suc (suc n)))) e c fr lt m h = cc

  modified_is : (k e : ℕ) (c : DatCell) → kind k ≡ Free → e < 2 → is_modified (touch k e (Data c)) ≡ (modifies k c.dat && among (cells k e) (Data c))
  modified_is k e c fr lt = iff_eq (is_modified (touch k e (Data c))) (modifies k c.dat && among (cells k e) (Data c))
      (λ h. and_from (modifies k c.dat) (among (cells k e) (Data c)) (modified faulty k e c fr lt h) (modified_held k e c fr lt h))
      (λ h. let a : (modifies k c.dat ≡ true) × (among (cells k e) (Data c) ≡ true) = and_parts (modifies k c.dat) (among (cells k e) (Data c)) h in window_modified k e c fr lt a.0 a.1)

  pub sum_only : (b : Bool) (o : Reduction) → cond b (Some Add) None ≡ Some o → b ≡ true
  sum_only true o h = refl
  sum_only false o h = cc

  reduced_held : (k e : ℕ) (v : VarCell) (o : Reduction) → kind k ≡ Free → e < 2 → reduces (site k) v ≡ Some o → among (cells k e) (Variable v) ≡ true
  reduced_held zero e v o fr lt h = cc
  reduced_held (suc zero) e v o fr lt h = subst (λ z. among all (Variable z) ≡ true) (sym (sum_is v (sum_only (is_sum v) o h))) refl
  reduced_held (suc (suc zero)) e v o fr lt h = cc
  reduced_held (suc (suc (suc zero))) e v o fr lt h = cc
  reduced_held (suc (suc (suc (suc n)))) e v o fr lt h = cc

  -- ---- buffers
  abbrev Placed : ℕ → DatCell → Type 0
  Placed t c = ((2 * c.dat + side t c.element) < 4) × (cell_at t (2 * c.dat + side t c.element) ≡ c)

  placed_at : (t d n : ℕ) → t < 2 → d < 2 → n < 2 → Placed t (record { dat = d; element = n; component = 0 })
  placed_at t d n lt ld ln = two (λ t. (d n : ℕ) → d < 2 → n < 2 → Placed t (record { dat = d; element = n; component = 0 }))
      (λ d n ld ln. two (λ d. (n : ℕ) → n < 2 → Placed 0 (record { dat = d; element = n; component = 0 }))
      (λ n ln. two (λ n. Placed 0 (record { dat = 0; element = n; component = 0 })) (omega arith, refl) (omega arith, refl) n ln)
      (λ n ln. two (λ n. Placed 0 (record { dat = 1; element = n; component = 0 })) (omega arith, refl) (omega arith, refl) n ln) d ld n ln)
      (λ d n ld ln. two (λ d. (n : ℕ) → n < 2 → Placed 1 (record { dat = d; element = n; component = 0 }))
      (λ n ln. two (λ n. Placed 1 (record { dat = 0; element = n; component = 0 })) (omega arith, refl) (omega arith, refl) n ln)
      (λ n ln. two (λ n. Placed 1 (record { dat = 1; element = n; component = 0 })) (omega arith, refl) (omega arith, refl) n ln) d ld n ln) t lt d n ld ln

  placed : (t : ℕ) (c : DatCell) → t < 2 → real c ≡ true → Placed t c
  placed t c lt h =
      let a : Real c = is_real c h in
      subst (Placed t) (λ j. record { dat = c.dat; element = c.element; component = sym a.component j }) (placed_at t c.dat c.element lt a.dat a.element)

  all_real : (t i : ℕ) → t < 2 → i < 4 → real (cell_at t i) ≡ true
  all_real t zero lt li = x_real t lt
  all_real t (suc zero) lt li = x_real (other t) (below t lt)
  all_real t (suc (suc zero)) lt li = r_real t lt
  all_real t (suc (suc (suc n))) lt li = r_real (other t) (below t lt)

  host_sees : (k : ℕ) (s t : Store) → ((c : Cell) → There c → s c ≡ t c) → (ring faulty).program.host k s ≡ (ring faulty).program.host k t
  host_sees k s t h =
      ap (λ z. Goes (kept_variables s) (digits z)) (h sum (omega arith, refl)) ∙ ap (λ f. Goes f (digits (t sum))) (λ i v. kept v i)
    where
      kept : (v : VarCell) → kept_variables s v ≡ kept_variables t v
      kept v = ⊎_elim
          (λ (y : is_variable v ≡ true).
          let a : (nat_lt v.variable 3 ≡ true) × ((v.component == 0) ≡ true) = and_parts (nat_lt v.variable 3) (v.component == 0) y in
          let i : v.component ≡ 0 = eqb-true v.component 0 a.1 in
          ap (λ z. cond (is_variable v) z (pos 0)) (h (Variable v) (ltb-true v.variable 3 a.0, λ j. record { variable = v.variable; component = sym i j })))
          (λ (y : is_variable v ≡ false). cond-false (is_variable v) (s (Variable v)) (pos 0) y ∙ sym (cond-false (is_variable v) (t (Variable v)) (pos 0) y))
          (cases_Bool (is_variable v))

  -- ---- messages
  exported : (k s t : ℕ) (c : DatCell) → t < 2 → real c ≡ true → arrives (ring faulty) k t s c ≡ true → among (exports k s t) (Data c) ≡ true
  exported k s t c lt h a =
      let u : ((owner_of (ring faulty) c == s) ≡ true) × ((needs k c.dat && has_copy (ring faulty) t c) ≡ true) =
      and_parts (owner_of (ring faulty) c == s) (needs k c.dat && has_copy (ring faulty) t c) a in
      let v : (needs k c.dat ≡ true) × (has_copy (ring faulty) t c ≡ true) = and_parts (needs k c.dat) (has_copy (ring faulty) t c) u.1 in
      let c_real : Real c = is_real c h in
      by_item k (sym (owner_in faulty c c_real.element) ∙ eqb-true (owner_of (ring faulty) c) s u.0) v.0
    where
      by_item : (k : ℕ) → c.element ≡ s → needs k c.dat ≡ true → among (exports k s t) (Data c) ≡ true
      by_item zero e n = absurd (false≢true n)
      by_item (suc zero) e n =
          let d : c.dat ≡ 0 = eqb-true c.dat 0 n in
          let c_real : Real c = is_real c h in
          let i : x_cell s ≡ c = (λ j. record { dat = sym d j; element = sym e j; component = sym c_real.component j }) in
          subst (λ z. among (x s ∷ []) (Data z) ≡ true) i (or_left (same_cell (x s) (x s)) false (same_cell_refl (x s)))
      by_item (suc (suc m)) e n = absurd (false≢true n)

  exports_own : (k s t : ℕ) (c : DatCell) → s < 2 → among (exports k s t) (Data c) ≡ true → (real c ≡ true) × (owner_of (ring faulty) c ≡ s)
  exports_own zero s t c ls h = absurd (false≢true h)
  exports_own (suc zero) s t c ls h = ⊎_elim
      (λ (i : x s ≡ Data c). let j : x_cell s ≡ c = cc in subst (λ z. (real z ≡ true) × (owner_of (ring faulty) z ≡ s)) j (x_real s ls, owner_in faulty (x_cell s) ls))
      (λ u. absurd (false≢true u))
      (is_first (x s) [] (Data c) h)
  exports_own (suc (suc n)) s t c ls h = absurd (false≢true h)

  -- ---- places
  side_own : (t e : ℕ) → e ≡ t → side t e ≡ 0
  side_own t e i = cond-true (e == t) 0 1 (eq-eqb e t i)

  side_other : (t e : ℕ) → (e ≡ t → ⊥) → side t e ≡ 1
  side_other t e ne = cond-false (e == t) 0 1 (ne_eqb e t ne)

  inside : (k t e : ℕ) → kind k ≡ Free → t < 2 → e < 2 → executes (ring faulty) k t e ≡ true → (side t e < count k t) × (of_side t (side t e) ≡ e)
  inside zero t e fr lt le ex =
      let i : e ≡ t = ⊎_elim (λ u. eqb-true e t u) (λ u. absurd (false≢true u)) (or_cases (e == t) (false && false) ex) in
      ((let z : side t e ≡ 0 = side_own t e i in omega arith), ap (of_side t) (side_own t e i) ∙ sym i)
  inside (suc zero) t e fr lt le ex = ⊎_elim
      (λ (i : e ≡ t). ((let z : side t e ≡ 0 = side_own t e i in omega arith), ap (of_side t) (side_own t e i) ∙ sym i))
      (λ (ne : e ≡ t → ⊥). ((let z : side t e ≡ 1 = side_other t e ne in omega arith), ap (of_side t) (side_other t e ne) ∙ sym (other_is faulty t e lt le ne)))
      (cases_eq e t)
  inside (suc (suc zero)) t e fr lt le ex = absurd (false≢true (ap is_free fr))
  inside (suc (suc (suc zero))) t e fr lt le ex = absurd (false≢true (ap is_free fr))
  inside (suc (suc (suc (suc n)))) t e fr lt le ex = absurd (false≢true (ap is_free fr))

  pub of_below : (t i : ℕ) → t < 2 → of_side t i < 2
  of_below t zero lt = lt
  of_below t (suc i) lt = below t lt

  side_of : (t i : ℕ) → t < 2 → i < 2 → side t (of_side t i) ≡ i
  side_of t zero lt li = side_own t t refl
  side_of t (suc zero) lt li = side_other t (other t) (other_not faulty t lt)
  side_of t (suc (suc n)) lt li = absurd (omega arith)

  outside : (k t i : ℕ) → kind k ≡ Free → t < 2 → i < count k t → (of_side t i < 2) × (executes (ring faulty) k t (of_side t i) ≡ true) × (side t (of_side t i) ≡ i)
  outside zero t zero fr lt li = (lt, or_left (t == t) (false && false) (eq-eqb t t refl), side_own t t refl)
  outside zero t (suc i) fr lt li = absurd (omega arith)
  outside (suc zero) t i fr lt li = (of_below t i lt, all_edges faulty t (of_side t i) lt (of_below t i lt), side_of t i lt li)
  outside (suc (suc zero)) t i fr lt li = absurd (omega arith)
  outside (suc (suc (suc n))) t i fr lt li = absurd (omega arith)

  no_sum : (k : ℕ) → kind k ≡ Free → reduces (site k) one_cell ≡ None
  no_sum zero fr = refl
  no_sum (suc zero) fr = refl
  no_sum (suc (suc zero)) fr = refl
  no_sum (suc (suc (suc n))) fr = refl

  pub fits : IsLayout (ring faulty) (ring_layout faulty)
  fits = record {
    run_is = run_is faulty;
    same_length = same_length faulty;
    constants_are = ((omega arith, refl), no_sum, tt);
    exist = exist;
    held = held;
    modified_is = modified_is;
    reduced_held = reduced_held;
    placed = λ t c lt h has. placed t c lt h;
    real = all_real;
    host_sees = λ k s t ho h. subst (λ z. HostedAlike (ring faulty) (ring_layout faulty) (Goes (kept_variables s) (digits (s sum))) z) (host_sees k s t h) (λ i lt. refl, refl);
    exported = exported;
    exports_own = exports_own;
    inside = inside;
    outside = outside;
  }

  zero_at : (t i : ℕ) → t < 2 → i < 4 → get_or (get_or ring_start.memories t []) i (pos 0) ≡ pos 0
  zero_at zero zero lt li = refl
  zero_at zero (suc zero) lt li = refl
  zero_at zero (suc (suc zero)) lt li = refl
  zero_at zero (suc (suc (suc zero))) lt li = refl
  zero_at zero (suc (suc (suc (suc n)))) lt li = absurd (omega arith)
  zero_at (suc zero) zero lt li = refl
  zero_at (suc zero) (suc zero) lt li = refl
  zero_at (suc zero) (suc (suc zero)) lt li = refl
  zero_at (suc zero) (suc (suc (suc zero))) lt li = refl
  zero_at (suc zero) (suc (suc (suc (suc n)))) lt li = absurd (omega arith)
  zero_at (suc (suc t)) i lt li = absurd (omega arith)

  first_variable : (i : ℕ) → i < 3 → get_or ring_start.variables i (pos 0) ≡ first_value (Variable (record { variable = i; component = 0 }))
  first_variable zero li = refl
  first_variable (suc zero) li = refl
  first_variable (suc (suc zero)) li = refl
  first_variable (suc (suc (suc i))) li = absurd (omega arith)

  zero_unit : (s : ℕ) (v : VarCell) → pos 0 ≡ unit_at (reduces s v)
  zero_unit zero v = refl
  zero_unit (suc zero) v = by_bool (is_sum v)
    where
      by_bool : (b : Bool) → pos 0 ≡ unit_at (cond b (Some Add) None)
      by_bool true = refl
      by_bool false = refl
  zero_unit (suc (suc s)) v = refl

  pub starts : StartsFlat (ring faulty) (ring_layout faulty) ring_start
  starts = record {
    ranks = refl;
    widths = λ t lt. two (λ t. length (get_or ring_start.memories t []) ≡ 4) refl refl t lt;
    values = λ t i lt li. zero_at t i lt li;
    count = refl;
    variables = first_variable;
    partials = λ t s v. zero_unit s v;
    mail = λ s t. refl;
    panes = λ k t i. refl;
    faults = refl;
    output = refl;
    stop = refl;
  }
