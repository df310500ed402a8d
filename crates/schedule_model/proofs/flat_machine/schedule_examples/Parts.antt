-- What the laws of plans ask of the ring's arguments, halos, exchanges and colours.
use Rattle.std.proofs.Common.{◌≡◌, ℕ, zero, suc, ◌<◌, Bool, true, false, cond, ◌⊎◌, inl, inr, refl, sym, ap, subst, ◌∙◌, arith, ⊎_elim, Some, None}
use Rattle.std.specs.Prelude.{◌&&◌, ◌||◌, ◌==◌, nat_lt}
use Rattle.std.proofs.lemmas.Bool.{cases_eq, false≢true, and_parts, and_from, or_left, or_right, or_cases, eqb-true, eq-eqb, ltb-true, lt-ltb}
use Rattle.op_num.specs.Reduction.{Reduction, Add}
use Rattle.schedule_model.specs.Cells.{Data, Variable, DatCell, VarCell}
use Rattle.schedule_model.specs.Effects.{Touch, Untouched, Read, Written, Merged, is_modified}
use Rattle.schedule_model.specs.Program.{Free, is_free}
use Rattle.op_num.specs.Access.{Access, OpRead, OpReduce}
use Rattle.schedule_model.specs.Arguments.{Direct, Indirect, Global, access_of, modifying, reading, is_direct, is_on, joined, touch_by}
use Rattle.schedule_model.specs.LoopParts.{LoopParts}
use Rattle.schedule_model.specs.Ring.{other, sum_cell, is_x, is_r, is_sum, is_one, is_base, kind, site, set, touch, reduces, modifies, needs, sends, import_execute, import_nonexecute, core, ring}
use Rattle.schedule_model.specs.RingLayout.{of_side}
use Rattle.schedule_model.specs.RingArguments.{args, of_nodes, of_edges, arg, entry}
use Rattle.schedule_model.proofs.flat_machine.schedule_examples.Lawful.{of_node, x_no_r, other_is, other_not, goes, only_read, ordered}
use Rattle.schedule_model.proofs.flat_machine.schedule_examples.Windows.{sum_is}
use Rattle.schedule_model.proofs.flat_machine.schedule_examples.OnBuffers.{sum_only, below, of_below}
use Rattle.lemmas.proofs.Truth.{iff_eq}

abbrev of_one : ℕ → ℕ
of_one d = 1

-- a Free item is one of the first two
first_two : (P : ℕ → Type 0) → P 0 → P 1 → (k : ℕ) → kind k ≡ Free → P k
first_two P a b zero fr = a
first_two P a b (suc zero) fr = b
first_two P a b (suc (suc zero)) fr = absurd (false≢true (ap is_free fr))
first_two P a b (suc (suc (suc zero))) fr = absurd (false≢true (ap is_free fr))
first_two P a b (suc (suc (suc (suc n)))) fr = absurd (false≢true (ap is_free fr))

-- ---- arguments
indirect : (a d m i : ℕ) (y : Access) → of_edges a ≡ Indirect d m i y → (m ≡ 0) × (i < 2)
indirect zero d m i y h = (let e : 0 ≡ m = cc in sym e, (let e : 0 ≡ i = cc in omega arith))
indirect (suc zero) d m i y h = (let e : 0 ≡ m = cc in sym e, (let e : 1 ≡ i = cc in omega arith))
indirect (suc (suc zero)) d m i y h = (let e : 0 ≡ m = cc in sym e, (let e : 0 ≡ i = cc in omega arith))
indirect (suc (suc (suc zero))) d m i y h = (let e : 0 ≡ m = cc in sym e, (let e : 1 ≡ i = cc in omega arith))
indirect (suc (suc (suc (suc n)))) d m i y h = (cc, cc)

no_direct : (a d : ℕ) (y : Access) → of_edges a ≡ Direct d y → ⊥
no_direct zero d y h = cc
no_direct (suc zero) d y h = cc
no_direct (suc (suc zero)) d y h = cc
no_direct (suc (suc (suc zero))) d y h = cc
no_direct (suc (suc (suc (suc n)))) d y h = cc

-- the sum's argument is the fifth
global : (a v : ℕ) (y : Access) → a < 5 → of_edges a ≡ Global v y → a ≡ 4
global zero v y lt h = cc
global (suc zero) v y lt h = cc
global (suc (suc zero)) v y lt h = cc
global (suc (suc (suc zero))) v y lt h = cc
global (suc (suc (suc (suc n)))) v y lt h = omega arith

-- item 0 has a direct argument and two on the base
no_indirect : (a d m i : ℕ) (y : Access) → of_nodes a ≡ Indirect d m i y → ⊥
no_indirect zero d m i y h = cc
no_indirect (suc a) d m i y h = cc

no_reduction : (a v : ℕ) (o : Reduction) → of_nodes a ≡ Global v (OpReduce o) → ⊥
no_reduction zero v o h = cc
no_reduction (suc a) v o h = cc

direct_on : (a d : ℕ) → is_on d (of_nodes a) ≡ true → (is_direct (of_nodes a) ≡ true) × (0 ≡ d)
direct_on zero d on = (refl, eqb-true 0 d on)
direct_on (suc a) d on = absurd (false≢true on)

-- a modified dat is r
modifies_r : (a d : ℕ) → is_on d (of_edges a) ≡ true → modifying (access_of (of_edges a)) ≡ true → d ≡ 1
modifies_r zero d on md = absurd (false≢true md)
modifies_r (suc zero) d on md = absurd (false≢true md)
modifies_r (suc (suc zero)) d on md = sym (eqb-true 1 d on)
modifies_r (suc (suc (suc zero))) d on md = sym (eqb-true 1 d on)
modifies_r (suc (suc (suc (suc n)))) d on md = absurd (false≢true on)

-- and r is only added to
adds_r : (a : ℕ) → is_on 1 (of_edges a) ≡ true → access_of (of_edges a) ≡ OpReduce Add
adds_r zero on = absurd (false≢true on)
adds_r (suc zero) on = absurd (false≢true on)
adds_r (suc (suc zero)) on = refl
adds_r (suc (suc (suc zero))) on = refl
adds_r (suc (suc (suc (suc n)))) on = refl

-- what is read through the map is x
reads_x : (a d m i : ℕ) → of_edges a ≡ Indirect d m i OpRead → d ≡ 0
reads_x zero d m i h = (let e : 0 ≡ d = cc in sym e)
reads_x (suc zero) d m i h = (let e : 0 ≡ d = cc in sym e)
reads_x (suc (suc zero)) d m i h = cc
reads_x (suc (suc (suc zero))) d m i h = cc
reads_x (suc (suc (suc (suc n)))) d m i h = cc

-- the cell is the component 0 of dat d's element n
abbrev hits : ℕ → ℕ → DatCell → Bool
hits d n c = (d == c.dat) && ((n == c.element) && nat_lt c.component 1)

hit : (d n : ℕ) (c : DatCell) → hits d n c ≡ true → (d ≡ c.dat) × (n ≡ c.element) × (c.component ≡ 0)
hit d n c h =
    let a : ((d == c.dat) ≡ true) × (((n == c.element) && nat_lt c.component 1) ≡ true) = and_parts (d == c.dat) ((n == c.element) && nat_lt c.component 1) h in
    let b : ((n == c.element) ≡ true) × (nat_lt c.component 1 ≡ true) = and_parts (n == c.element) (nat_lt c.component 1) a.1 in
    (eqb-true d c.dat a.0, eqb-true n c.element b.0, (let l : c.component < 1 = ltb-true c.component 1 b.1 in omega arith))

is_hit : (d n : ℕ) (c : DatCell) → d ≡ c.dat → n ≡ c.element → c.component ≡ 0 → hits d n c ≡ true
is_hit d n c i j k = and_from (d == c.dat) ((n == c.element) && nat_lt c.component 1) (eq-eqb d c.dat i)
    (and_from (n == c.element) (nat_lt c.component 1) (eq-eqb n c.element j) (lt-ltb c.component 1 (omega arith)))

abbrev of_dat : ℕ → DatCell → Bool
of_dat d c = (c.dat == d) && (nat_lt c.element 2 && (c.component == 0))

component_0 : (d : ℕ) (c : DatCell) → of_dat d c ≡ true → c.component ≡ 0
component_0 d c h = eqb-true c.component 0 (and_parts (nat_lt c.element 2) (c.component == 0) (and_parts (c.dat == d) (nat_lt c.element 2 && (c.component == 0)) h).1).1

hit_node : (d n : ℕ) (c : DatCell) → n < 2 → hits d n c ≡ true → of_dat d c ≡ true
hit_node d n c lt h =
    let a : (d ≡ c.dat) × (n ≡ c.element) × (c.component ≡ 0) = hit d n c h in
    and_from (c.dat == d) (nat_lt c.element 2 && (c.component == 0)) (eq-eqb c.dat d (sym a.0))
    (and_from (nat_lt c.element 2) (c.component == 0) (lt-ltb c.element 2 (subst (λ z. z < 2) a.1 lt)) (eq-eqb c.component 0 a.2))

-- a node's cell is hit from one side or the other
both_sides : (d e : ℕ) (c : DatCell) → e < 2 → of_dat d c ≡ (hits d e c || hits d (other e) c)
both_sides d e c lt = iff_eq (of_dat d c) (hits d e c || hits d (other e) c)
    (λ h. ⊎_elim
    (λ (i : c.element ≡ e). or_left (hits d e c) (hits d (other e) c) (is_hit d e c (sym (of_node c d h).of_dat) (sym i) (component_0 d c h)))
    (λ (ne : c.element ≡ e → ⊥). or_right (hits d e c) (hits d (other e) c)
    (is_hit d (other e) c (sym (of_node c d h).of_dat) (sym (other_is false e c.element lt (of_node c d h).below ne))
    (component_0 d c h)))
    (cases_eq c.element e))
    (λ h. ⊎_elim (λ t. hit_node d e c lt t) (λ t. hit_node d (other e) c (below false e lt) t) (or_cases (hits d e c) (hits d (other e) c) h))

own_side : (e : ℕ) (c : DatCell) → e < 2 → (is_x c && (c.element == e)) ≡ hits 0 e c
own_side e c lt = iff_eq (is_x c && (c.element == e)) (hits 0 e c)
    (λ h. let a : (is_x c ≡ true) × ((c.element == e) ≡ true) = and_parts (is_x c) (c.element == e) h in
    is_hit 0 e c (sym (of_node c 0 a.0).of_dat) (sym (eqb-true c.element e a.1)) (component_0 0 c a.0))
    (λ h. and_from (is_x c) (c.element == e) (hit_node 0 e c lt h) (eq-eqb c.element e (sym (hit 0 e c h).1)))

abbrev fold_touch : Bool → Bool → Bool → Bool → Touch
fold_touch b0 b1 b2 b3 =
    cond b3 (joined (cond b2 (joined (cond b1 (joined (cond b0 Read Untouched) OpRead) (cond b0 Read Untouched)) (OpReduce Add))
    (cond b1 (joined (cond b0 Read Untouched) OpRead) (cond b0 Read Untouched))) (OpReduce Add))
    (cond b2 (joined (cond b1 (joined (cond b0 Read Untouched) OpRead) (cond b0 Read Untouched)) (OpReduce Add)) (cond b1 (joined (cond b0 Read Untouched) OpRead) (cond b0 Read Untouched)))

by_tests : (b0 b1 b2 b3 : Bool) → ((b0 || b1) ≡ true → (b2 || b3) ≡ false) → cond (b0 || b1) Read (cond (b2 || b3) (Merged Add) Untouched) ≡ fold_touch b0 b1 b2 b3
by_tests true true true b3 h = absurd (false≢true (sym (h refl)))
by_tests true true false true h = absurd (false≢true (sym (h refl)))
by_tests true true false false h = refl
by_tests true false true b3 h = absurd (false≢true (sym (h refl)))
by_tests true false false true h = absurd (false≢true (sym (h refl)))
by_tests true false false false h = refl
by_tests false true true b3 h = absurd (false≢true (sym (h refl)))
by_tests false true false true h = absurd (false≢true (sym (h refl)))
by_tests false true false false h = refl
by_tests false false true true h = refl
by_tests false false true false h = refl
by_tests false false false true h = refl
by_tests false false false false h = refl

edge_touch : (e : ℕ) (c : DatCell) → e < 2 → touch 1 e (Data c) ≡ touch_by entry of_one of_one (arg 1) 5 e (Data c)
edge_touch e c lt =
    ap (λ b. cond b Read (cond (is_r c) (Merged Add) Untouched)) (both_sides 0 e c lt)
    ∙ (ap (λ b. cond (hits 0 e c || hits 0 (other e) c) Read (cond b (Merged Add) Untouched)) (both_sides 1 e c lt)
    ∙ by_tests (hits 0 e c) (hits 0 (other e) c) (hits 1 e c) (hits 1 (other e) c)
    (λ h. sym (both_sides 1 e c lt) ∙ x_no_r c (both_sides 0 e c lt ∙ h)))

module _ (faulty : Bool) where
  touch_is : (k e : ℕ) (c : DatCell) → kind k ≡ Free → e < 2 → touch k e (Data c) ≡ touch_by entry of_one of_one (arg (site k)) (args (site k)) e (Data c)
  touch_is k e c fr lt = first_two (λ k. touch k e (Data c) ≡ touch_by entry of_one of_one (arg (site k)) (args (site k)) e (Data c))
      (ap (λ b. cond b Written Untouched) (own_side e c lt)) (edge_touch e c lt) k fr

  variable_touch : (k e : ℕ) (v : VarCell) (o : Reduction) → kind k ≡ Free → reduces (site k) v ≡ Some o
      → touch k e (Variable v) ≡ touch_by entry of_one of_one (arg (site k)) (args (site k)) e (Variable v)
  variable_touch k e v o fr = first_two (λ k. reduces (site k) v ≡ Some o → touch k e (Variable v) ≡ touch_by entry of_one of_one (arg (site k)) (args (site k)) e (Variable v))
      (λ h. cc)
      (λ h. subst (λ z. touch 1 e (Variable z) ≡ touch_by entry of_one of_one (arg 1) 5 e (Variable z)) (sym (sum_is v (sum_only faulty (is_sum v) o h))) refl) k fr

  none_merged : (b c : Bool) → cond b (Some Add) None ≡ None → is_modified (cond b (Merged Add) (cond c Read Untouched)) ≡ false
  none_merged true c h = cc
  none_merged false c h = only_read faulty c

  add_only : (b : Bool) (o : Reduction) → cond b (Some Add) None ≡ Some o → o ≡ Add
  add_only true o h = (let e : Add ≡ o = cc in sym e)
  add_only false o h = cc

  reduces_only : (k : ℕ) (v : VarCell) (o : Reduction) → kind k ≡ Free → reduces (site k) v ≡ Some o → (a : ℕ) × (a < args (site k))
      × (arg (site k) a ≡ Global v.variable (OpReduce o)) × (v.component < 1)
  reduces_only k v o fr = first_two (λ k. reduces (site k) v ≡ Some o → (a : ℕ) × (a < args (site k)) × (arg (site k) a ≡ Global v.variable (OpReduce o)) × (v.component < 1))
      (λ h. absurd (let n : None ≡ Some o = h in cc))
      (λ h.
      let i : v ≡ sum_cell = sum_is v (sum_only faulty (is_sum v) o h) in
      let a : o ≡ Add = add_only (is_sum v) o h in (
        4,
        omega arith,
        ap (λ z. Global z (OpReduce Add)) (sym (ap (λ z. z.variable) i)) ∙ ap (λ z. Global v.variable (OpReduce z)) (sym a),
        (let j : v.component ≡ 0 = ap (λ z. z.component) i in omega arith),
      )) k fr

  -- ---- halos
  execute_if : (r s e : ℕ) → r < 2 → e < 2 → (e ≡ r → ⊥) → 1 ≡ s → import_execute r s e ≡ true
  execute_if r s e lr le ne i = subst (λ z. import_execute r z e ≡ true) i (eq-eqb e (other r) (other_is false r e lr le ne))

  execute_other : (r s e : ℕ) → r < 2 → import_execute r s e ≡ true → e ≡ r → ⊥
  execute_other r zero e lr h i = false≢true h
  execute_other r (suc s) e lr h i = other_not false r lr (sym (eqb-true e (other r) h) ∙ i)

  nonexecute_other : (r s e : ℕ) → r < 2 → import_nonexecute r s e ≡ true → e ≡ r → ⊥
  nonexecute_other r zero e lr h i = other_not false r lr (sym (eqb-true e (other r) h) ∙ i)
  nonexecute_other r (suc s) e lr h i = false≢true h

  core_own : (r s e : ℕ) → core r s e ≡ true → e ≡ r
  core_own r zero e h = eqb-true e r h
  core_own r (suc s) e h = absurd (false≢true h)

  no_core : (r s e : ℕ) → core r s e ≡ true → 1 ≡ s → ⊥
  no_core r zero e h i = omega arith
  no_core r (suc s) e h i = false≢true h

  sent : (k r d e : ℕ) → kind k ≡ Free → r < 2 → needs k d ≡ true → (import_execute r 0 e ≡ true) ⊎ (import_nonexecute r 0 e ≡ true) → sends k e r ≡ true
  sent k r d e fr lr = first_two (λ k. needs k d ≡ true → (import_execute r 0 e ≡ true) ⊎ (import_nonexecute r 0 e ≡ true) → sends k e r ≡ true)
      (λ n h. absurd (false≢true n))
      (λ n h. ⊎_elim (λ t. absurd (false≢true t)) (λ t. ap (λ z. sends 1 z r) (eqb-true e (other r) t) ∙ goes false r lr) h) k fr

  pub loops : LoopParts (ring faulty)
  loops = record {
    args = args;
    arg = arg;
    maps = 1;
    from_set = λ m. 1;
    to_set = λ m. 0;
    arity = λ m. 2;
    entry = entry;
    dim = of_one;
    width = of_one;
    direct_set = λ k a d y fr. first_two (λ k. a < args (site k) → arg (site k) a ≡ Direct d y → 0 ≡ set k) (λ lt h. refl) (λ lt h. absurd (no_direct a d y h)) k fr;
    indirect_set = λ k a d m i y fr. first_two (λ k. a < args (site k) → arg (site k) a ≡ Indirect d m i y → (m < 1) × (1 ≡ set k) × (◌≡◌ {A = ℕ} 0 0) × (i < 2))
        (λ lt h. absurd (no_indirect a d m i y h))
        (λ lt h. let z : (m ≡ 0) × (i < 2) = indirect a d m i y h in ((let e : m ≡ 0 = z.0 in omega arith), refl, refl, z.1)) k fr;
    in_range = λ m e i lm le li. of_below false e i le;
    named_once = λ k a b v y o fr. first_two (λ k. a < args (site k) → b < args (site k) → arg (site k) a ≡ Global v y → arg (site k) b ≡ Global v (OpReduce o) → a ≡ b)
        (λ la lb h i. absurd (no_reduction b v o i)) (λ la lb h i. global a v y la h ∙ sym (global b v (OpReduce o) lb i)) k fr;
    reduces_only = reduces_only;
    touch_is = touch_is;
    variable_touch = λ k e v o fr lt h. variable_touch k e v o fr h;
    constant_touch = λ k e v fr lt. first_two (λ k. reduces (site k) v ≡ None → is_modified (touch k e (Variable v)) ≡ false)
        (λ h. only_read faulty (is_base v)) (λ h. none_merged (is_sum v) (is_one v) h) k fr;
    free_is = λ k b d fr. first_two (λ k. b < args (site k) → is_on d (arg (site k) b) ≡ true → modifying (access_of (arg (site k) b)) ≡ true
        → ((o : Reduction) × ((a : ℕ) → a < args (site k) → is_on d (arg (site k) a) ≡ true → access_of (arg (site k) a) ≡ OpReduce o))
        ⊎ ((a : ℕ) → a < args (site k) → is_on d (arg (site k) a) ≡ true → is_direct (arg (site k) a) ≡ true))
        (λ lb on md. inr (λ a la u. (direct_on a d u).0))
        (λ lb on md. inl (Add, λ a la u. adds_r a (ap (λ z. is_on z (of_edges a)) (sym (modifies_r b d on md)) ∙ u))) k fr;
    modifies_is = λ k a d fr. first_two (λ k. a < args (site k) → is_on d (arg (site k) a) ≡ true → modifying (access_of (arg (site k) a)) ≡ true → modifies k d ≡ true)
        (λ la on md. eq-eqb d 0 (sym (direct_on a d on).1)) (λ la on md. eq-eqb d 1 (modifies_r a d on md)) k fr;
    modifies_only = λ k d fr. first_two (λ k. modifies k d ≡ true → (a : ℕ) × (a < args (site k)) × (is_on d (arg (site k) a) ≡ true) × (modifying (access_of (arg (site k) a)) ≡ true))
        (λ h. (0, omega arith, eq-eqb 0 d (sym (eqb-true d 0 h)), refl)) (λ h. (2, omega arith, eq-eqb 1 d (sym (eqb-true d 1 h)), refl)) k fr;
    scatters_is = λ k a d m i o fr. first_two (λ k. a < args (site k) → arg (site k) a ≡ Indirect d m i (OpReduce o) → (k == 1) ≡ true)
        (λ la h. absurd (no_indirect a d m i (OpReduce o) h)) (λ la h. refl) k fr;
    needs_indirect = λ k a d m i fr. first_two (λ k. a < args (site k) → arg (site k) a ≡ Indirect d m i OpRead → needs k d ≡ true)
        (λ la h. absurd (no_indirect a d m i OpRead h)) (λ la h. eq-eqb d 0 (reads_x a d m i h)) k fr;
    needs_direct = λ k a d y fr. first_two (λ k. a < args (site k) → arg (site k) a ≡ Direct d y → reading y ≡ true → (k == 1) ≡ true → needs k d ≡ true)
        (λ la h rd sc. absurd (false≢true sc)) (λ la h rd sc. absurd (no_direct a d y h)) k fr;
    execute_if = λ r s e m i lr le ne lm from li own. execute_if r s e lr le ne from;
    execute_other = λ r s e lr le h i. execute_other r s e lr h i;
    nonexecute_if = λ r m e i lr lm li le ex ne none. eq-eqb (of_side e i) (other r) (other_is false r (of_side e i) lr (of_below false e i le) ne);
    nonexecute_other = λ r s e lr le h i. nonexecute_other r s e lr h i;
    core_own = λ r s e lr le h. core_own r s e h;
    core_targets = λ r s e m i lr le h lm from li. absurd (no_core r s e h from);
    sent = λ k r d e fr lr x le h. sent k r d e fr lr x h;
    coloured = λ k r a b i j d fr lr la lb xa xb ne li lj oni onj o n ai aj same. ordered faulty k r a b la lb ne;
  }
