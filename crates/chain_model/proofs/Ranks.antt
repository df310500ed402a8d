-- A Free item keeps what holds before an item.
use Rattle.std.proofs.Common.{◌≡◌, ℕ, ℤ, zero, suc, ◌<◌, ◌≤◌, Bool, true, false, cond, inl, inr, refl, sym, ap, subst, ◌∙◌, arith, ⊎_elim, Option, Some, None}
use Rattle.std.specs.Prelude.{◌&&◌, ◌==◌, not}
use Rattle.std.proofs.lemmas.Bool.{cases_eq, cases_Bool, false≢true, cond_both, cond-true, cond-false, and_from, and_right, not_from_false, eq-eqb, ne_eqb}
use Rattle.op_num.specs.Reduction.{Reduction}
use Rattle.schedule_model.specs.Cells.{Cell, Data, Variable, DatCell, VarCell}
use Rattle.schedule_model.specs.Effects.{is_modified}
use Rattle.schedule_model.specs.Program.{Free, Reduce, is_free, elements}
use Rattle.schedule_model.specs.Setup.{owner_of}
use Rattle.schedule_model.specs.Sequential.{seq}
use Rattle.schedule_model.specs.Machine.{unit_at}
use Rattle.schedule_model.specs.Tests.{not_free}
use Rattle.schedule_model.proofs.Public.{folded, folded_none, folded_same, keeps, unreduced, owner_below, output_of, is_going, store_at, FreeCase, was_over, goes_on, ends, free_case, Each, Member, is_reduce, reduce_kind, source, source_self, source_free, source_reduce, Recorded}
use Rattle.chain_model.specs.Chains.{follows_free, begins}
use Rattle.chain_model.specs.Machine.{pair_values, ChainState, gathered, exchanged, supplied, rank_run, ranks_run, item_run}
use Rattle.chain_model.proofs.Given.{Given, chains, Comes, makes, breaks, owns, made, part, part_before, culprit, KeptBefore}
use Rattle.chain_model.proofs.Stores.{Has, cell_is, has_same, some_is, GoodPair, Sane, good_gathered}
use Rattle.chain_model.proofs.Invariants.{Doing, During, Before}
use Rattle.chain_model.proofs.Elements.{one_more}

module _ {F : Type 0} (g : Given F) (k : ℕ) (free : g.p.program.kind k ≡ Free) where
  -- ---- what is before the item
  part_unit : (st : ChainState F) (b : Before g k st) → Comes g k → (r : ℕ) → r < g.p.ranks → (s : ℕ) (v : VarCell) → st.partials r s v ≡ unit_at (g.p.reduces s v)
  part_unit st b go r lr s v =
      b.parts go r lr s v
      ∙ cond-false (is_reduce (g.p.program.kind k) && (s == g.p.program.site k)) (part g (source g.p k) r (elements g.p.program (source g.p k)) v) (unit_at (g.p.reduces s v))
      (ap (λ x. is_reduce x && (s == g.p.program.site k)) free)

  starts_with : (st : ChainState F) → Before g k st → (u : ChainState F) → u.stop ≡ None → u.output ≡ st.output → u.faults ≡ st.faults → u.variables ≡ st.variables → u.partials ≡ st.partials → Sane u
      → (Comes g k → (r : ℕ) → r < g.p.ranks → (x : DatCell) → g.needs k r x.dat x.element ≡ true → Has (u.stores r) x (store_at g.p k (Data x)))
      → During g k 0 0 u
  starts_with st b u stop out faults vars parts sane cells = record {
    running = stop;
    told = out ∙ b.told;
    sane = sane;
    recorded = subst (λ l. Each (Recorded g.p) l) (sym faults) b.recorded;
    kept = subst (λ l. KeptBefore g k l) (sym faults) b.kept;
    found = λ go e f le who bad. ⊎_elim
        (λ (l : g.p.owner (g.p.program.set k) e < 0). absurd (omega arith))
        (λ (two : (g.p.owner (g.p.program.set k) e ≡ 0) × (e < 0)). let l : e < 0 = two.1 in absurd (omega arith))
        who;
    variables = λ go v. ap (λ z. z v) vars ∙ (b.variables go v ∙ ap (λ j. store_at g.p j (Variable v)) (source_free g.p k free));
    before = λ go r l lr. absurd (omega arith);
    now = λ go lr. doing go 0 lr;
    behind = λ go r l lr. doing go r lr;
  }
    where
      doing : Comes g k → (r : ℕ) → r < g.p.ranks → Doing g k r 0 u
      doing go r lr = record {
        cells = λ x need. cells go r lr x need;
        here = λ v. ap (λ z. z r (g.p.program.site k) v) parts ∙ part_unit st b go r lr (g.p.program.site k) v;
        others = λ s v ne. ap (λ z. z r s v) parts ∙ part_unit st b go r lr s v;
      }

  -- inside a chain the stores have what is needed
  goes_inside : (st : ChainState F) → Before g k st → follows_free g.p.program.kind k ≡ true → During g k 0 0 st
  goes_inside st b inside = starts_with st b st b.running refl refl refl refl b.sane (λ go r lr x need. b.inside go inside r lr x need)

  -- at its start the exchange gives it
  is_supplied : (st : ChainState F) → Before g k st → During g k 0 0 (exchanged (chains g) k st)
  is_supplied st b = starts_with st b (exchanged (chains g) k st) b.running refl refl refl refl
      (record {
        stores = λ r d y. cond_both (g.needs k r d y) (Some (pair_values (gathered (chains g) st) d y)) None GoodPair
            (λ t i. good_gathered g st b.sane (Data (record { dat = d; element = y; component = i })))
            (λ t. tt);
        variables = b.sane.variables;
        parts = b.sane.parts;
      })
      (λ go r lr x need. some_is (g.needs k r x.dat x.element) (pair_values (gathered (chains g) st) x.dat x.element) None x.component (store_at g.p k (Data x)) need
      (cell_is (st.stores (owner_of g.p x)) x (store_at g.p k (Data x)) (b.own go (owner_of g.p x) (owner_below g.p g.q x) x refl)))

  follows_if : begins g.p.program.kind k ≡ false → follows_free g.p.program.kind k ≡ true
  follows_if h = ⊎_elim
      (λ (t : follows_free g.p.program.kind k ≡ true). t)
      (λ (t : follows_free g.p.program.kind k ≡ false).
      absurd (false≢true (sym h ∙ and_from (is_free (g.p.program.kind k)) (not (follows_free g.p.program.kind k)) (ap is_free free) (not_from_false (follows_free g.p.program.kind k) t))))
      (cases_Bool (follows_free g.p.program.kind k))

  supplied_by : (st : ChainState F) → Before g k st → (x : Bool) → begins g.p.program.kind k ≡ x → During g k 0 0 (cond x (exchanged (chains g) k st) st)
  supplied_by st b true h = is_supplied st b
  supplied_by st b false h = goes_inside st b (follows_if h)

  pub supplies : (st : ChainState F) → Before g k st → During g k 0 0 (supplied (chains g) k st)
  supplies st b = supplied_by st b (begins g.p.program.kind k) refl

  -- ---- the ranks, one after another
  elements_run : (n m : ℕ) (st : ChainState F) → n < g.p.ranks → m ≤ elements g.p.program k → During g k n 0 st → During g k n m (rank_run (chains g) k n m st)
  elements_run n zero st lr le d = d
  elements_run n (suc m) st lr le d = one_more g k n m free (rank_run (chains g) k n m st) (elements_run n m st lr (omega arith) d) lr (omega arith)

  next_rank : (n : ℕ) (st : ChainState F) → n < g.p.ranks → During g k n (elements g.p.program k) st → During g k (suc n) 0 st
  next_rank n st lr d = record {
    running = d.running;
    told = d.told;
    sane = d.sane;
    recorded = d.recorded;
    kept = d.kept;
    found = λ go e f le who bad. ⊎_elim
        (λ (l : g.p.owner (g.p.program.set k) e < suc n). ⊎_elim
        (λ (i : g.p.owner (g.p.program.set k) e ≡ n). d.found go e f le (inr (i, le)) bad)
        (λ (ne : g.p.owner (g.p.program.set k) e ≡ n → ⊥). d.found go e f le (inl (omega arith)) bad)
        (cases_eq (g.p.owner (g.p.program.set k) e) n))
        (λ (two : (g.p.owner (g.p.program.set k) e ≡ suc n) × (e < 0)). let l : e < 0 = two.1 in absurd (omega arith))
        who;
    variables = d.variables;
    before = λ go r l lb. ⊎_elim
        (λ (i : r ≡ n). subst (λ z. Doing g k z (elements g.p.program k) st) (sym i) (d.now go lr))
        (λ (ne : r ≡ n → ⊥). d.before go r (omega arith) lb)
        (cases_eq r n);
    now = λ go lb. d.behind go (suc n) (omega arith) lb;
    behind = λ go r l lb. d.behind go r (omega arith) lb;
  }

  pub all_run : (n : ℕ) (st : ChainState F) → n ≤ g.p.ranks → During g k 0 0 st → During g k n 0 (ranks_run (chains g) k n st)
  all_run zero st le d = d
  all_run (suc n) st le d = next_rank n (rank_run (chains g) k n (elements g.p.program k) (ranks_run (chains g) k n st)) (omega arith)
      (elements_run n (elements g.p.program k) (ranks_run (chains g) k n st) (omega arith) (omega arith) (all_run n st (omega arith) d))

  -- ---- behind the item
  -- the run over all its elements
  abbrev Sums : Type 0
  Sums = (c : Cell) → store_at g.p (suc k) c ≡ folded (elements g.p.program k) (λ e. true) (λ e. makes g k c e) (store_at g.p k c)

  cells_next : (st : ChainState F) (r : ℕ) → Doing g k r (elements g.p.program k) st → Sums → (x : DatCell)
      → g.needs (suc k) r x.dat x.element ≡ true → Has (st.stores r) x (store_at g.p (suc k) (Data x))
  cells_next st r d sums x need =
      has_same (st.stores r) x (made g k r (elements g.p.program k) x) (store_at g.p (suc k) (Data x))
      (d.cells x (g.are.later k r x.dat x.element free need))
      (folded_same (elements g.p.program k) (λ e. g.executes k r e) (λ e. true) (makes g k (Data x)) (store_at g.p k (Data x))
      (λ e le. ⊎_elim
      (λ (w : is_modified (g.p.touch k e (Data x)) ≡ true). inl (g.are.modified k r e x free le w need))
      (λ (w : is_modified (g.p.touch k e (Data x)) ≡ false). inr (λ z. keeps g.p g.q k e (store_at g.p k) (Data x) z w))
      (cases_Bool (is_modified (g.p.touch k e (Data x)))))
      ∙ sym (sums (Data x)))

  -- a loop into whose variable nothing reduces
  not_reducing : is_reduce (g.p.program.kind (suc k)) ≡ false → (v : VarCell) → g.p.reduces (g.p.program.site k) v ≡ None
  not_reducing n v = by_op (g.p.reduces (g.p.program.site k) v) refl
    where
      by_op : (o : Option Reduction) → g.p.reduces (g.p.program.site k) v ≡ o → g.p.reduces (g.p.program.site k) v ≡ None
      by_op None e = e
      by_op (Some o) e = absurd (false≢true (sym n ∙ ap is_reduce (g.q.lawful.items.reduce_next k v o free e)))

  -- the effects on such a variable
  no_effects : is_reduce (g.p.program.kind (suc k)) ≡ false → (v : VarCell) (w : ℕ → Bool) (x : ℤ) → folded (elements g.p.program k) w (makes g k (Variable v)) x ≡ x
  no_effects n v w x = folded_none (elements g.p.program k) w (makes g k (Variable v)) x
      (λ e le. inr (λ y. keeps g.p g.q k e (store_at g.p k) (Variable v) y (unreduced g.p g.q k e v free le (not_reducing n v))))

  variables_next : (st : ChainState F) → ((v : VarCell) → st.variables v ≡ store_at g.p k (Variable v)) → Sums → (v : VarCell) → st.variables v ≡ store_at g.p (source g.p (suc k)) (Variable v)
  variables_next st same sums v =
      same v ∙ ⊎_elim
      (λ (t : is_reduce (g.p.program.kind (suc k)) ≡ true). ap (λ j. store_at g.p j (Variable v)) (sym (source_reduce g.p k (reduce_kind (g.p.program.kind (suc k)) t))))
      (λ (t : is_reduce (g.p.program.kind (suc k)) ≡ false).
      sym (sums (Variable v) ∙ no_effects t v (λ e. true) (store_at g.p k (Variable v)))
      ∙ ap (λ j. store_at g.p j (Variable v)) (sym (source_self g.p (suc k) t)))
      (cases_Bool (is_reduce (g.p.program.kind (suc k))))

  -- before a Reduce: the amounts of its loop, and units elsewhere
  parts_reduce : (st : ChainState F) (r : ℕ) → Doing g k r (elements g.p.program k) st → g.p.program.kind (suc k) ≡ Reduce → (s : ℕ) (v : VarCell) → st.partials r s v ≡ part_before g (suc k) r s v
  parts_reduce st r d reduces s v =
      let after : (g.p.program.kind k ≡ Free) × (g.p.program.site (suc k) ≡ g.p.program.site k) = g.q.lawful.items.reduce_after k reduces in
      ⊎_elim
      (λ (i : s ≡ g.p.program.site k).
      subst (λ z. st.partials r z v ≡ part_before g (suc k) r z v) (sym i)
      (d.here v
      ∙ (ap (λ j. part g j r (elements g.p.program j) v) (sym (source_reduce g.p k reduces))
      ∙ sym (cond-true (is_reduce (g.p.program.kind (suc k)) && (g.p.program.site k == g.p.program.site (suc k)))
      (part g (source g.p (suc k)) r (elements g.p.program (source g.p (suc k))) v) (unit_at (g.p.reduces (g.p.program.site k) v))
      (and_from (is_reduce (g.p.program.kind (suc k))) (g.p.program.site k == g.p.program.site (suc k)) (ap is_reduce reduces)
      (eq-eqb (g.p.program.site k) (g.p.program.site (suc k)) (sym after.1)))))))
      (λ (ne : s ≡ g.p.program.site k → ⊥).
      d.others s v ne
      ∙ sym (cond-false (is_reduce (g.p.program.kind (suc k)) && (s == g.p.program.site (suc k)))
      (part g (source g.p (suc k)) r (elements g.p.program (source g.p (suc k))) v) (unit_at (g.p.reduces s v))
      (and_right (is_reduce (g.p.program.kind (suc k))) (s == g.p.program.site (suc k)) (ne_eqb s (g.p.program.site (suc k)) (λ e. ne (e ∙ after.1))))))
      (cases_eq s (g.p.program.site k))

  -- before any other item: units
  parts_none : (st : ChainState F) (r : ℕ) → Doing g k r (elements g.p.program k) st → is_reduce (g.p.program.kind (suc k)) ≡ false
      → (s : ℕ) (v : VarCell) → st.partials r s v ≡ part_before g (suc k) r s v
  parts_none st r d unset s v =
      ⊎_elim
      (λ (i : s ≡ g.p.program.site k). subst (λ z. st.partials r z v ≡ unit_at (g.p.reduces z v)) (sym i) (d.here v ∙ no_effects unset v (owns g k r) (unit_at (g.p.reduces (g.p.program.site k) v))))
      (λ (ne : s ≡ g.p.program.site k → ⊥). d.others s v ne)
      (cases_eq s (g.p.program.site k))
      ∙ sym (cond-false (is_reduce (g.p.program.kind (suc k)) && (s == g.p.program.site (suc k)))
      (part g (source g.p (suc k)) r (elements g.p.program (source g.p (suc k))) v) (unit_at (g.p.reduces s v))
      (ap (λ x. x && (s == g.p.program.site (suc k))) unset))

  parts_next : (st : ChainState F) (r : ℕ) → Doing g k r (elements g.p.program k) st → (s : ℕ) (v : VarCell) → st.partials r s v ≡ part_before g (suc k) r s v
  parts_next st r d s v = ⊎_elim
      (λ (t : is_reduce (g.p.program.kind (suc k)) ≡ true). parts_reduce st r d (reduce_kind (g.p.program.kind (suc k)) t) s v)
      (λ (t : is_reduce (g.p.program.kind (suc k)) ≡ false). parts_none st r d t s v)
      (cases_Bool (is_reduce (g.p.program.kind (suc k))))

  module _ (st : ChainState F) (d : During g k g.p.ranks 0 st) (went : (j : ℕ) → j < k → is_free (g.p.program.kind j) ≡ false → Comes g (suc j)) where
    -- all faults are recorded
    kept_next : KeptBefore g (suc k) st.faults
    kept_next j e f l fr le go bad = ⊎_elim
        (λ (i : j ≡ k).
        let le_k : e < elements g.p.program k = subst (λ z. e < elements g.p.program z) i le in
        subst (λ z. Member (culprit z e f) st.faults) (sym i)
        (d.found (subst (λ z. Comes g z) i go) e f le_k
        (inl (g.q.lawful.items.owners (g.p.program.set k) e le_k))
        (subst (λ z. breaks g z e ≡ Some f) i bad)))
        (λ (ne : j ≡ k → ⊥). d.kept j e f (omega arith) fr le go bad)
        (cases_eq j k)

    went_next : (j : ℕ) → j < suc k → is_free (g.p.program.kind j) ≡ false → Comes g (suc j)
    went_next j l unset = ⊎_elim
        (λ (i : j ≡ k). absurd (not_free (g.p.program.kind j) unset (ap g.p.program.kind i ∙ free)))
        (λ (ne : j ≡ k → ⊥). went j (omega arith) unset)
        (cases_eq j k)

    -- nothing more is said where the sequential run is over
    over : st.output ≡ output_of (seq g.p.program (suc k)) → is_going (seq g.p.program (suc k)) ≡ false → Before g (suc k) st
    over out n = record {
      running = d.running;
      told = out;
      sane = d.sane;
      recorded = d.recorded;
      kept = kept_next;
      went = went_next;
      own = λ y. absurd (false≢true (sym n ∙ y));
      inside = λ y. absurd (false≢true (sym n ∙ y));
      variables = λ y. absurd (false≢true (sym n ∙ y));
      parts = λ y. absurd (false≢true (sym n ∙ y));
    }

    by_case : FreeCase g.p k → Before g (suc k) st
    by_case (was_over h e) = over (d.told ∙ ap output_of (sym e)) (ap is_going e ∙ h)
    by_case (goes_on h h2 none sums out) = record {
      running = d.running;
      told = d.told ∙ sym out;
      sane = d.sane;
      recorded = d.recorded;
      kept = kept_next;
      went = went_next;
      own = λ y r lr x o. cells_next st r (d.before h r lr lr) sums x (g.are.own_pairs (suc k) r x o);
      inside = λ y f r lr x need. cells_next st r (d.before h r lr lr) sums x need;
      variables = λ y v. variables_next st (d.variables h) sums v;
      parts = λ y r lr s v. parts_next st r (d.before h r lr lr) s v;
    }
    by_case (ends h e f le bad none t n) = over (d.told ∙ ap output_of (sym n)) (ap is_going n)

  pub free_item : (st : ChainState F) → Before g k st → Before g (suc k) (item_run (chains g) k Free st)
  free_item st b =
      by_case (ranks_run (chains g) k g.p.ranks (supplied (chains g) k st)) (all_run g.p.ranks (supplied (chains g) k st) (omega arith) (supplies st b)) b.went
      (free_case g.p g.q k free)
