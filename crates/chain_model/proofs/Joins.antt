-- An item that isn't Free keeps what holds before an item, or stops the machine as the sequential run stops.
use Rattle.std.proofs.Common.{◌≡◌, ℕ, ℤ, zero, suc, ◌<◌, ◌≤◌, Bool, true, false, cond, ◌⊎◌, inl, inr, refl, sym, ap, subst, ◌∙◌, arith, ⊎_elim, Option, Some, None, List, ◌++◌}
use Rattle.std.specs.Prelude.{◌&&◌, ◌==◌, nat_lt, is_some}
use Rattle.std.proofs.lemmas.Bool.{cases_eq, cases_lt, cases_Bool, false≢true, false_from_ne_true, cond_both, cond-true, cond-false, and_from, and_right, eq-eqb, ne_eqb, lt-ltb, le-ltb}
use Rattle.op_num.specs.Reduction.{Reduction}
use Rattle.schedule_model.specs.Cells.{Cell, Data, Variable, DatCell, VarCell, Store, InRange}
use Rattle.schedule_model.specs.Program.{Kind, Free, Reduce, Ordered, Host, is_free, is_loop, Halts, Goes, elements}
use Rattle.schedule_model.specs.Setup.{owner_of}
use Rattle.schedule_model.specs.Sequential.{Stop, Broke, Ran_through, loop, Seq, Stopped, Going, with_variables, seq, sequential}
use Rattle.schedule_model.specs.Machine.{unit_at, merge_at, least}
use Rattle.schedule_model.specs.Tests.{not_free}
use Rattle.schedule_model.proofs.Public.{folded, folded_none, folded_same, folded_merge, folded_union, commutes, good_unit, merge_unit, merge_amount, owner_below, store_of, output_of, is_going, store_at, GoodLoop, good_loop, good_store, FreeCase, was_over, goes_on, ends, free_case, JoinCase, was_over_join, reduces_join, runs_join, breaks_join, goes_join, halts_join, join_case, Good, Each, Member, is_reduce, source, source_self, source_reduce, Recorded, seq_ends, going_down}
use Rattle.chain_model.specs.Slicing.{pair_owner}
use Rattle.chain_model.specs.Machine.{pair_values, ChainState, gathered, merged_over, reduced, spread, looped, hosted, unless_recorded, item_run, ChainAgrees}
use Rattle.chain_model.proofs.Given.{Given, chains, Comes, makes, owns, part, culprit}
use Rattle.chain_model.proofs.Stores.{Has, cell_is, has_same, some_is, GoodPair, Sane, good_cond, good_merged, good_gathered}
use Rattle.chain_model.proofs.Invariants.{Before}
use Rattle.chain_model.proofs.Recorded.{Stops, none_recorded, stops}

-- the machine has stopped, as the sequential run does
pub record Halted {F : Type 0} (g : Given F) (k : ℕ) (st : ChainState F) : Type 0 where
  pub halted : is_some st.stop ≡ true
  pub over : is_going (seq g.p.program k) ≡ false
  pub agrees : ChainAgrees (chains g) (sequential g.p.program) st

agrees_at : {F : Type 0} (g : Given F) (x : Stop F) (t : Store) (o : List ℕ) (st : ChainState F) (s : Seq F) → s ≡ Stopped x t o → st.stop ≡ Some x → st.output ≡ o → ChainAgrees (chains g) s st
agrees_at g x t o st s e stop out = subst (λ y. ChainAgrees (chains g) y st) (sym e) (stop, out)

halts_at : {F : Type 0} (g : Given F) (x : Stop F) (t : Store) (o : List ℕ) (st : ChainState F) (k : ℕ) → k ≤ g.p.program.items
    → seq g.p.program k ≡ Stopped x t o → st.stop ≡ Some x → st.output ≡ o → Halted g k st
halts_at g x t o st k le e stop out = record {
  halted = ap is_some stop;
  over = ap is_going e;
  agrees = agrees_at g x t o st (seq g.p.program g.p.program.items) (seq_ends g.p x t o k g.p.program.items e le) stop out;
}

-- ---- Reduce: the partials of all ranks are the amounts of all elements
module _ {F : Type 0} (g : Given F) (j : ℕ) (does : g.p.program.kind (suc j) ≡ Reduce) (st : ChainState F) (b : Before g (suc j) st) (go : Comes g (suc j)) where
  after_free : (g.p.program.kind j ≡ Free) × (g.p.program.site (suc j) ≡ g.p.program.site j)
  after_free = g.q.lawful.items.reduce_after j does

  going_j : Comes g j
  going_j = going_down g.p j (suc j) (omega arith) go

  -- the operation on a variable, what it holds before the loop, and what the elements of the ranks below n make of it
  abbrev op : VarCell → Option Reduction
  op v = g.p.reduces (g.p.program.site j) v

  abbrev first : VarCell → ℤ
  first v = store_at g.p j (Variable v)

  abbrev parts_of : VarCell → ℕ → ℤ
  parts_of v r = st.partials r (g.p.program.site j) v

  abbrev below : ℕ → ℕ → Bool
  below n e = nat_lt (g.p.owner (g.p.program.set j) e) n

  abbrev made_below : VarCell → ℕ → ℤ
  made_below v n = folded (elements g.p.program j) (below n) (makes g j (Variable v)) (first v)

  part_is : (v : VarCell) (r : ℕ) → r < g.p.ranks → parts_of v r ≡ part g j r (elements g.p.program j) v
  part_is v r lr =
      ap (λ s. st.partials r s v) (sym after_free.1)
      ∙ (b.parts go r lr (g.p.program.site (suc j)) v
      ∙ (cond-true (is_reduce (g.p.program.kind (suc j)) && (g.p.program.site (suc j) == g.p.program.site (suc j)))
      (part g (source g.p (suc j)) r (elements g.p.program (source g.p (suc j))) v) (unit_at (g.p.reduces (g.p.program.site (suc j)) v))
      (and_from (is_reduce (g.p.program.kind (suc j))) (g.p.program.site (suc j) == g.p.program.site (suc j)) (ap is_reduce does) (eq-eqb (g.p.program.site (suc j)) (g.p.program.site (suc j)) refl))
      ∙ ap (λ i. part g i r (elements g.p.program i) v) (source_reduce g.p j does)))

  marks : (n e : ℕ) → e < elements g.p.program j
      → ((below n e ≡ true) × (owns g j n e ≡ false) × (below (suc n) e ≡ true)) ⊎ ((below n e ≡ false) × (owns g j n e ≡ below (suc n) e))
  marks n e l = ⊎_elim
      (λ (lt : g.p.owner (g.p.program.set j) e < n). inl (
        lt-ltb (g.p.owner (g.p.program.set j) e) n lt,
        ne_eqb (g.p.owner (g.p.program.set j) e) n (λ i. omega arith),
        lt-ltb (g.p.owner (g.p.program.set j) e) (suc n) (omega arith),
      ))
      (λ (ge : n ≤ g.p.owner (g.p.program.set j) e). inr (
        le-ltb (g.p.owner (g.p.program.set j) e) n ge,
        ⊎_elim
            (λ (eq : g.p.owner (g.p.program.set j) e ≡ n). eq-eqb (g.p.owner (g.p.program.set j) e) n eq ∙ sym (lt-ltb (g.p.owner (g.p.program.set j) e) (suc n) (omega arith)))
            (λ (ne : g.p.owner (g.p.program.set j) e ≡ n → ⊥). ne_eqb (g.p.owner (g.p.program.set j) e) n ne ∙ sym (le-ltb (g.p.owner (g.p.program.set j) e) (suc n) (omega arith)))
            (cases_eq (g.p.owner (g.p.program.set j) e) n),
      ))
      (cases_lt (g.p.owner (g.p.program.set j) e) n)

  merged_is : (v : VarCell) (n : ℕ) → n ≤ g.p.ranks → merged_over (op v) (parts_of v) n (first v) ≡ made_below v n
  merged_is v zero le = sym (folded_none (elements g.p.program j) (below 0) (makes g j (Variable v)) (first v) (λ e l. inl (le-ltb (g.p.owner (g.p.program.set j) e) 0 (omega arith))))
  merged_is v (suc n) le =
      ap (λ x. merge_at (op v) x (parts_of v n)) (merged_is v n (omega arith))
      ∙ (ap (merge_at (op v) (made_below v n)) (part_is v n (omega arith))
      ∙ (folded_merge (elements g.p.program j) (owns g j n) (makes g j (Variable v))
      (merge_at (op v) (made_below v n)) (unit_at (op v)) (made_below v n)
      (merge_unit g.p g.q (op v) (made_below v n)
      (subst Good (merged_is v n (omega arith))
      (good_merged g (op v) (parts_of v) n (first v) (λ r. b.sane.parts r (g.p.program.site j) v)
      (good_store g.p g.q j going_j (Variable v)))))
      (λ e x l. merge_amount g.p g.q j e (store_at g.p j) v (made_below v n) x after_free.0 l)
      ∙ folded_union (elements g.p.program j) (elements g.p.program j) (below n) (owns g j n) (below (suc n)) (makes g j (Variable v)) (first v)
      (omega arith) (commutes g.p g.q j (store_at g.p j) (Variable v) after_free.0) (λ e l. marks n e l)))

  all_merged : (v : VarCell) → merged_over (op v) (parts_of v) g.p.ranks (first v) ≡ folded (elements g.p.program j) (λ e. true) (makes g j (Variable v)) (first v)
  all_merged v =
      merged_is v g.p.ranks (omega arith)
      ∙ folded_same (elements g.p.program j) (below g.p.ranks) (λ e. true) (makes g j (Variable v)) (first v)
      (λ e l. inl (lt-ltb (g.p.owner (g.p.program.set j) e) g.p.ranks (g.q.lawful.items.owners (g.p.program.set j) e l)))

  reduced_by : (v : VarCell) → FreeCase g.p j → merged_over (g.p.reduces (g.p.program.site (suc j)) v)
      (λ r. st.partials r (g.p.program.site (suc j)) v) g.p.ranks (st.variables v) ≡ store_at g.p (suc j) (Variable v)
  reduced_by v (was_over h x) = absurd (false≢true (sym h ∙ (ap is_going (sym x) ∙ go)))
  reduced_by v (ends h a f le bad none t x) = absurd (false≢true (ap is_going (sym x) ∙ go))
  reduced_by v (goes_on h h2 none sums out) =
      ap (λ s. merged_over (g.p.reduces s v) (λ r. st.partials r s v) g.p.ranks (st.variables v)) after_free.1
      ∙ (ap (merged_over (op v) (parts_of v) g.p.ranks) (b.variables go v ∙ ap (λ i. store_at g.p i (Variable v)) (source_reduce g.p j does))
      ∙ (all_merged v ∙ sym (sums (Variable v))))

reduced_is : {F : Type 0} (g : Given F) (k : ℕ) → g.p.program.kind k ≡ Reduce → (st : ChainState F) → Before g k st → Comes g k → (v : VarCell)
    → merged_over (g.p.reduces (g.p.program.site k) v) (λ r. st.partials r (g.p.program.site k) v) g.p.ranks (st.variables v) ≡ store_at g.p k (Variable v)
reduced_is g zero does st b go v = absurd (g.q.lawful.items.first_item does)
reduced_is g (suc j) does st b go v = reduced_by g j does st b go v (free_case g.p g.q j (g.q.lawful.items.reduce_after j does).0)

-- ---- all joins
module _ {F : Type 0} (g : Given F) (k : ℕ) (low : k < g.p.program.items) (joins : is_free (g.p.program.kind k) ≡ false) (st : ChainState F) (b : Before g k st) where
  not_reduce_next : is_reduce (g.p.program.kind (suc k)) ≡ false
  not_reduce_next = by_kind (g.p.program.kind (suc k)) refl
    where
      by_kind : (x : Kind) → g.p.program.kind (suc k) ≡ x → is_reduce (g.p.program.kind (suc k)) ≡ false
      by_kind Free e = ap is_reduce e
      by_kind Ordered e = ap is_reduce e
      by_kind Host e = ap is_reduce e
      by_kind Reduce e = absurd (not_free (g.p.program.kind k) joins (g.q.lawful.items.reduce_after k e).0)

  -- the state after a join that goes on
  after_join : (u : ChainState F) → Sane u → u.stop ≡ None → u.faults ≡ st.faults → Comes g (suc k) → u.output ≡ output_of (seq g.p.program (suc k))
      → ((r : ℕ) → r < g.p.ranks → (x : DatCell) → owner_of g.p x ≡ r → Has (u.stores r) x (store_at g.p (suc k) (Data x)))
      → ((v : VarCell) → u.variables v ≡ store_at g.p (suc k) (Variable v))
      → ((r : ℕ) → r < g.p.ranks → (s : ℕ) (v : VarCell) → u.partials r s v ≡ unit_at (g.p.reduces s v))
      → Before g (suc k) u
  after_join u sane stop faults go out own variables parts = record {
    running = stop;
    told = out;
    sane = sane;
    recorded = subst (λ l. Each (Recorded g.p) l) (sym faults) b.recorded;
    kept = λ j e f l fr le gj bad. ⊎_elim
        (λ (i : j ≡ k). absurd (not_free (g.p.program.kind k) joins (ap g.p.program.kind (sym i) ∙ fr)))
        (λ (ne : j ≡ k → ⊥). subst (λ z. Member (culprit j e f) z) (sym faults) (b.kept j e f (omega arith) fr le gj bad))
        (cases_eq j k);
    went = λ j l unset. ⊎_elim
        (λ (i : j ≡ k). subst (λ z. Comes g (suc z)) (sym i) go)
        (λ (ne : j ≡ k → ⊥). b.went j (omega arith) unset)
        (cases_eq j k);
    own = λ y r lr x o. own r lr x o;
    inside = λ y f. absurd (false≢true (sym joins ∙ f));
    variables = λ y v. variables v ∙ ap (λ j. store_at g.p j (Variable v)) (sym (source_self g.p (suc k) not_reduce_next));
    parts = λ y r lr s v.
        parts r lr s v
        ∙ sym (cond-false (is_reduce (g.p.program.kind (suc k)) && (s == g.p.program.site (suc k)))
        (part g (source g.p (suc k)) r (elements g.p.program (source g.p (suc k))) v) (unit_at (g.p.reduces s v))
        (ap (λ x. x && (s == g.p.program.site (suc k))) not_reduce_next));
  }

  -- no partial holds an amount at an item that merges none
  units : is_reduce (g.p.program.kind k) ≡ false → Comes g k → (r : ℕ) → r < g.p.ranks → (s : ℕ) (v : VarCell) → st.partials r s v ≡ unit_at (g.p.reduces s v)
  units idle go r lr s v =
      b.parts go r lr s v
      ∙ cond-false (is_reduce (g.p.program.kind k) && (s == g.p.program.site k)) (part g (source g.p k) r (elements g.p.program (source g.p k)) v) (unit_at (g.p.reduces s v))
      (ap (λ x. x && (s == g.p.program.site k)) idle)

  gathered_at : is_reduce (g.p.program.kind k) ≡ false → Comes g k → (x : Cell) → gathered (chains g) st x ≡ store_at g.p k x
  gathered_at idle go (Data x) = cell_is (st.stores (owner_of g.p x)) x (store_at g.p k (Data x)) (b.own go (owner_of g.p x) (owner_below g.p g.q x) x refl)
  gathered_at idle go (Variable v) = b.variables go v ∙ ap (λ j. store_at g.p j (Variable v)) (source_self g.p k idle)

  gathered_is : is_reduce (g.p.program.kind k) ≡ false → Comes g k → gathered (chains g) st ≡ store_at g.p k
  gathered_is idle go = λ i x. gathered_at idle go x i

  -- Reduce
  goes_reduce : g.p.program.kind k ≡ Reduce → Comes g k → seq g.p.program (suc k) ≡ seq g.p.program k → Before g (suc k) (reduced (chains g) k st)
  goes_reduce does go n = after_join (reduced (chains g) k st)
      (record {
        stores = b.sane.stores;
        variables = λ v. good_merged g (g.p.reduces (g.p.program.site k) v) (λ r. st.partials r (g.p.program.site k) v) g.p.ranks
            (st.variables v) (λ r. b.sane.parts r (g.p.program.site k) v) (b.sane.variables v);
        parts = λ r s v. good_cond g (s == g.p.program.site k) (unit_at (g.p.reduces s v)) (st.partials r s v) (good_unit g.p g.q (g.p.reduces s v)) (b.sane.parts r s v);
      })
      b.running refl (ap is_going n ∙ go) (b.told ∙ ap output_of (sym n))
      (λ r lr x o. has_same (st.stores r) x (store_at g.p k (Data x)) (store_at g.p (suc k) (Data x)) (b.own go r lr x o) (ap (λ s. store_of s (Data x)) (sym n)))
      (λ v. reduced_is g k does st b go v ∙ ap (λ s. store_of s (Variable v)) (sym n))
      (λ r lr s v. ⊎_elim
      (λ (y : (s == g.p.program.site k) ≡ true). cond-true (s == g.p.program.site k) (unit_at (g.p.reduces s v)) (st.partials r s v) y)
      (λ (y : (s == g.p.program.site k) ≡ false).
      cond-false (s == g.p.program.site k) (unit_at (g.p.reduces s v)) (st.partials r s v) y
      ∙ (b.parts go r lr s v
      ∙ cond-false (is_reduce (g.p.program.kind k) && (s == g.p.program.site k)) (part g (source g.p k) r (elements g.p.program (source g.p k)) v) (unit_at (g.p.reduces s v))
      (and_right (is_reduce (g.p.program.kind k)) (s == g.p.program.site k) y)))
      (cases_Bool (s == g.p.program.site k)))

  -- Ordered
  good_spread : (t : Store) → InRange t → Sane (spread (chains g) t st)
  good_spread t good = record {
    stores = λ r d y. cond_both (pair_owner (chains g) d y == r) (Some (pair_values t d y)) (st.stores r d y) GoodPair
        (λ h i. good (Data (record { dat = d; element = y; component = i }))) (λ h. b.sane.stores r d y);
    variables = λ v. good (Variable v);
    parts = b.sane.parts;
  }

  goes_loop : (t : Store) → InRange t → g.p.program.kind k ≡ Ordered → Comes g k → seq g.p.program (suc k) ≡ Going t (output_of (seq g.p.program k)) → Before g (suc k) (spread (chains g) t st)
  goes_loop t good od go n = after_join (spread (chains g) t st) (good_spread t good) b.running refl (ap is_going n) (b.told ∙ ap output_of (sym n))
      (λ r lr x o. has_same (λ d y. cond (pair_owner (chains g) d y == r) (Some (pair_values t d y)) (st.stores r d y)) x (t (Data x)) (store_at g.p (suc k) (Data x))
      (some_is (pair_owner (chains g) x.dat x.element == r) (pair_values t x.dat x.element) (st.stores r x.dat x.element) x.component
      (t (Data x)) (eq-eqb (pair_owner (chains g) x.dat x.element) r o) refl)
      (ap (λ s. store_of s (Data x)) (sym n)))
      (λ v. ap (λ s. store_of s (Variable v)) (sym n))
      (units (ap is_reduce od) go)

  -- Host
  goes_host : (x : VarCell → ℤ) (o : List ℕ) → ((v : VarCell) → Good (x v)) → g.p.program.kind k ≡ Host → Comes g k
      → seq g.p.program (suc k) ≡ Going (with_variables x (store_at g.p k)) (output_of (seq g.p.program k) ++ o)
      → Before g (suc k) (hosted k (Goes x o) st)
  goes_host x o good ho go n = after_join (hosted k (Goes x o) st)
      (record { stores = b.sane.stores; variables = good; parts = b.sane.parts }) b.running refl (ap is_going n)
      (ap (λ z. z ++ o) b.told ∙ ap output_of (sym n))
      (λ r lr y own. has_same (st.stores r) y (store_at g.p k (Data y)) (store_at g.p (suc k) (Data y)) (b.own go r lr y own) (ap (λ s. store_of s (Data y)) (sym n)))
      (λ v. ap (λ s. store_of s (Variable v)) (sym n))
      (units (ap is_reduce ho) go)

  -- ---- all cases
  abbrev Kept : ChainState F → Type 0
  Kept u = Before g (suc k) u ⊎ Halted g (suc k) u

  -- a join that does its item
  none : Comes g k → (next : ChainState F) → Kept next → Kept (unless_recorded (least k st.faults) st next)
  none go next h = subst (λ z. Kept (unless_recorded z st next)) (sym (none_recorded g k st b go)) h

  is_kind : (x : Kind) → g.p.program.kind k ≡ x → Kept (item_run (chains g) k x st) → Kept (item_run (chains g) k (g.p.program.kind k) st)
  is_kind x i h = subst (λ y. Kept (item_run (chains g) k y st)) (sym i) h

  good_through : (t : Store) → g.p.program.kind k ≡ Ordered → loop g.p.program k (elements g.p.program k) (gathered (chains g) st) ≡ Ran_through t → InRange t
  good_through t od same = subst GoodLoop same (good_loop g.p g.q k (gathered (chains g) st) (elements g.p.program k) (ap is_loop od) (omega arith) (good_gathered g st b.sane))

  going_case : Comes g k → JoinCase g.p k → Kept (item_run (chains g) k (g.p.program.kind k) st)
  going_case go (was_over_join h n) = absurd (false≢true (sym h ∙ go))
  going_case go (reduces_join does h n) = is_kind Reduce does (none go (reduced (chains g) k st) (inl (goes_reduce does go n)))
  going_case go (runs_join od h t through n) =
      let same : loop g.p.program k (elements g.p.program k) (gathered (chains g) st) ≡ Ran_through t = ap (loop g.p.program k (elements g.p.program k)) (gathered_is (ap is_reduce od) go) ∙ through in
      is_kind Ordered od (none go (looped (chains g) k (loop g.p.program k (elements g.p.program k) (gathered (chains g) st)) st)
      (inl (subst (λ z. Before g (suc k) (looped (chains g) k z st)) (sym same) (goes_loop t (good_through t od same) od go n))))
  going_case go (breaks_join od h e f t through n) =
      let same : loop g.p.program k (elements g.p.program k) (gathered (chains g) st) ≡ Broke e f t = ap (loop g.p.program k (elements g.p.program k)) (gathered_is (ap is_reduce od) go) ∙ through in
      is_kind Ordered od (none go (looped (chains g) k (loop g.p.program k (elements g.p.program k) (gathered (chains g) st)) st)
      (inr (subst (λ z. Halted g (suc k) (looped (chains g) k z st)) (sym same)
      (halts_at g (culprit k e f) t (output_of (seq g.p.program k)) (looped (chains g) k (Broke e f t) st) (suc k) (omega arith) n refl b.told))))
  going_case go (goes_join ho h x o act n) =
      let same : g.p.program.host k (gathered (chains g) st) ≡ Goes x o = ap (g.p.program.host k) (gathered_is (ap is_reduce ho) go) ∙ act in
      is_kind Host ho (none go (hosted k (g.p.program.host k (gathered (chains g) st)) st)
      (inl (subst (λ z. Before g (suc k) (hosted k z st)) (sym same)
      (goes_host x o (g.q.lawful.kernels.host_in_range k (gathered (chains g) st) x o (good_gathered g st b.sane) same) ho go n))))
  going_case go (halts_join ho h f act n) =
      let same : g.p.program.host k (gathered (chains g) st) ≡ Halts f = ap (g.p.program.host k) (gathered_is (ap is_reduce ho) go) ∙ act in
      is_kind Host ho (none go (hosted k (g.p.program.host k (gathered (chains g) st)) st)
      (inr (subst (λ z. Halted g (suc k) (hosted k z st)) (sym same)
      (halts_at g (record { item = k; element = None; fault = f }) (store_at g.p k) (output_of (seq g.p.program k)) (hosted k (Halts f) st) (suc k) (omega arith) n refl b.told))))

  -- stopped by the recorded fault of an earlier item
  over_next : is_going (seq g.p.program k) ≡ false → is_going (seq g.p.program (suc k)) ≡ false
  over_next h = false_from_ne_true (is_going (seq g.p.program (suc k))) (λ t. false≢true (sym h ∙ going_down g.p k (suc k) (omega arith) t))

  stopped : is_going (seq g.p.program k) ≡ false → (s : Stops g k st) → (next : ChainState F) → Kept (unless_recorded (least k st.faults) st next)
  stopped h s next =
      let at_k : Halted g k (record st { stop = Some s.stop }) = halts_at g s.stop s.store (output_of (seq g.p.program k)) (record st { stop = Some s.stop }) k (omega arith) s.stopped refl b.told in
      subst (λ z. Kept (unless_recorded z st next)) (sym s.found) (inr (record { halted = at_k.halted; over = over_next h; agrees = at_k.agrees }))

  stopped_kind : is_going (seq g.p.program k) ≡ false → (x : Kind) → g.p.program.kind k ≡ x → Kept (item_run (chains g) k x st)
  stopped_kind h Free i = absurd (not_free (g.p.program.kind k) joins i)
  stopped_kind h Reduce i = stopped h (stops g k st b h) (reduced (chains g) k st)
  stopped_kind h Ordered i = stopped h (stops g k st b h) (looped (chains g) k (loop g.p.program k (elements g.p.program k) (gathered (chains g) st)) st)
  stopped_kind h Host i = stopped h (stops g k st b h) (hosted k (g.p.program.host k (gathered (chains g) st)) st)

  pub join_item : Before g (suc k) (item_run (chains g) k (g.p.program.kind k) st) ⊎ Halted g (suc k) (item_run (chains g) k (g.p.program.kind k) st)
  join_item = ⊎_elim
      (λ (go : Comes g k). going_case go (join_case g.p k joins))
      (λ (h : is_going (seq g.p.program k) ≡ false). stopped_kind h (g.p.program.kind k) refl)
      (cases_Bool (is_going (seq g.p.program k)))
